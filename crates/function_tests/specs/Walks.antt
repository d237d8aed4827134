-- The operations of a function with what surrounds them, and the first that breaks a test.
use Rattle.std.specs.Prelude.{◌≡◌, ℕ, ◌+◌, Bool, List, [], ◌∷◌, ◌++◌, map, Option, Some, None}
use Rattle.plain_tree.specs.Types.{PlainType, Void, plain_type}
use Rattle.plain_tree.specs.Ops.{Op, op, Ops, end_of_ops, more_ops, Regions, end_of_regions, region, Blocks, end_of_blocks, block}
use Rattle.rule_model.specs.declared.rules.Rule.{Rule}
use Rattle.rule_model.specs.Words.{types}
use Rattle.rule_model.specs.Facts.{Facts, Functions, Holder, is_end, regions_heads, target}
use Rattle.rule_model.specs.Sites.{holds}
use Rattle.value_types.specs.Views.{type_at}
use Rattle.rule_facts.specs.Finding.{Stands}
use Rattle.rule_facts.specs.Views.{all_declared}
use Rattle.rule_tests.specs.Firsts.{all_tests, first_of}
use Rattle.rule_tests.specs.Tests.{seen_from}
use Rattle.function_tests.specs.declared.operation.Walk.{Walk}

-- what the rules look at of an operation that is or isn't the last of its block
abbrev pub facts_at : (ℕ → PlainType) → Option Holder → Blocks → Bool → Op → Facts
facts_at type_of holder blocks last (op k results operands regions successors) = record {
  name = k.name;
  props = k.props;
  operands = map type_of operands;
  results = types results;
  successors = map (target blocks) successors;
  regions = regions_heads regions;
  holder = holder;
  last = last;
}

abbrev mutual
  -- of an operation and of those in its regions, in the order of the text
  pub op_facts : (ℕ → PlainType) → Option Holder → Blocks → Bool → Op → List Facts
  op_facts type_of holder blocks last (op k results operands regions successors) =
      let o : Op = op k results operands regions successors in
      facts_at type_of holder blocks last o ∷ regions_facts type_of (holds type_of o) 0 regions

  pub ops_facts : (ℕ → PlainType) → Option Holder → Blocks → Ops → List Facts
  ops_facts type_of holder blocks end_of_ops = []
  ops_facts type_of holder blocks (more_ops o rest) = op_facts type_of holder blocks (is_end rest) o ++ ops_facts type_of holder blocks rest

  pub regions_facts : (ℕ → PlainType) → (ℕ → Holder) → ℕ → Regions → List Facts
  regions_facts type_of holder n end_of_regions = []
  regions_facts type_of holder n (region blocks rest) = blocks_facts type_of (Some (holder n)) blocks blocks ++ regions_facts type_of holder (n + 1) rest

  -- of blocks of a region
  pub blocks_facts : (ℕ → PlainType) → Option Holder → Blocks → Blocks → List Facts
  blocks_facts type_of holder whole end_of_blocks = []
  blocks_facts type_of holder whole (block label args ops rest) = ops_facts type_of holder whole ops ++ blocks_facts type_of holder whole rest

-- the same holder at each of its regions
abbrev pub holder_of : Holder → ℕ → Holder
holder_of h n = record h { region = n }

-- so many operations kept all tests, or the one behind so many breaks one
pub data Found : Type 0 where
  Passed : ℕ → Found
  Breaks : ℕ → Rule → Found

-- an operation more
abbrev pub told : Option Rule → ℕ → Found
told None n = Passed (n + 1)
told (Some r) n = Breaks n r

-- what is found from there on
abbrev pub run : Functions → Found → List Facts → Found
run c (Breaks n r) fs = Breaks n r
run c (Passed n) [] = Passed n
run c (Passed n) (f ∷ fs) = run c (told (first_of c f all_tests) n) fs

-- an answer of code, with the operations counted
abbrev pub answered : Option Rule → ℕ → Found
answered None n = Passed n
answered (Some r) n = Breaks n r

-- As code looks things up

abbrev pub seen_by : Walk → Functions
seen_by w = seen_from w.symbols.now w.earlier

abbrev pub typed_by : Walk → ℕ → PlainType
typed_by w = type_at w.types.now

pub record Ready (w : Walk) : Type 0 where
  pub stands : Stands w.symbols.now.by_name (all_declared w.symbols.now.functions.now)
  pub void : plain_type w.void.now ≡ Void
