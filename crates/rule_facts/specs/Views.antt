-- What the parts of facts in code stand for.
use Rattle.std.specs.Prelude.{ℕ, ℤ, List, map, Option}
use Rattle.std.specs.Option.{option_map}
use Rattle.std.specs.Global.{Vec}
use Rattle.plain_tree.specs.Types.{PlainType}
use Rattle.plain_tree.specs.Attrs.{plain_entries}
use Rattle.rule_model.specs.Words.{if_some}
use Rattle.rule_model.specs.Facts as model
use Rattle.rule_model.specs.Forms.{naturals, part_at}
use Rattle.value_types.specs.Views.{plain_types}
use Rattle.rule_facts.specs.declared.facts.Head.{Head}
use Rattle.rule_facts.specs.declared.facts.Target.{Target}
use Rattle.rule_facts.specs.declared.facts.Holder.{Holder}
use Rattle.rule_facts.specs.declared.facts.Facts.{Facts}
use Rattle.rule_facts.specs.declared.symbols.Declared.{Declared}

-- two numbers as the definitions have them
abbrev pub pair_view : record { 0 : ℕ; 1 : ℕ } → ℕ × ℕ
pair_view p = (p.0, p.1)

-- the part at a path whose numbers are not negative
abbrev pub walked : List ℤ → PlainType → Option PlainType
walked zs t = if_some (naturals zs) (λ path. part_at path t)

abbrev pub head_view : Head → model.Head
head_view h = record { args = plain_types h.args.items; last = option_map (λ n. n.now) h.last }

abbrev pub heads_view : List Head → List model.Head
heads_view hs = map head_view hs

abbrev pub regions_view : List (Vec Head) → List (List model.Head)
regions_view rs = map (λ r. heads_view r.items) rs

abbrev pub target_view : Target → model.Target
target_view t = record { args = option_map (λ h. plain_types h.now.args.items) t.block; first = t.first }

abbrev pub targets_view : List Target → List model.Target
targets_view ts = map target_view ts

abbrev pub holder_view : Holder → model.Holder
holder_view h = record {
  name = h.name.now;
  props = plain_entries h.props.now;
  operands = plain_types h.operands.now;
  results = plain_types h.results.now;
  region = h.region;
}

abbrev pub facts_view : Facts → model.Facts
facts_view f = record {
  name = f.name.now;
  props = plain_entries f.props.now;
  operands = plain_types f.operands.now;
  results = plain_types f.results.now;
  successors = targets_view f.successors.now;
  regions = regions_view f.regions.now;
  holder = option_map holder_view f.holder;
  last = f.last;
}

abbrev pub declared_view : Declared → model.Declared
declared_view d = record { kind = d.kind.now; props = plain_entries d.props.now }

abbrev pub all_declared : List Declared → List model.Declared
all_declared ds = map declared_view ds
