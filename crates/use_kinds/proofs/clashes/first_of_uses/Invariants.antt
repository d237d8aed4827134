use Rattle.std.proofs.Common.{◌≡◌, ◌≤◌, drop}
use Rattle.text_types.specs.Items.{Aliases}
use Rattle.text_kinds.specs.Kinds.{least_from, least_of}
use Rattle.use_kinds.specs.Clashes.{clash_at, clashes_from}
use Rattle.use_kinds.specs.Flat.{Says}
use Rattle.use_kinds.proofs.clashes.first_of_uses.Given as goal

-- the first so far, and what is left
abbrev pub invariant-each : goal.invariant-each
invariant-each g l = record {
  bound : l.next ≤ l.index;
  left : (aliases : Aliases) → Says (g.S.Spelled.spelling l.words) aliases l.said.terms.now.nodes.keys l.said.events.now l.said.numbers.now l.said.signatures.now l.said.types.now.items.items l.said.types.now.rows.items
      → least_from l.first (clashes_from (clash_at (g.S.Spelled.spelling l.words) (g.S.Indexed.indexes l.words) aliases l.said.events.now) l.index (drop l.index l.said.events.now) (drop l.next l.definitions))
      ≡ least_of (clashes_from (clash_at (g.S.Spelled.spelling l.words) (g.S.Indexed.indexes l.words) aliases l.said.events.now) 0 l.said.events.now l.definitions);
}
