use Rattle.std.proofs.Common.{◌≡◌, ◌≤◌, length, drop, reverse}
use Rattle.term_table.specs.Terms.{Grows}
use Rattle.text_types.specs.Items.{items, begun, place_next}
use Rattle.text_types.specs.Stack.{Stands, alias_terms}
use Rattle.text_types.proofs.begun.begun_at.Given as goal

-- the stack and the numbers are those of the events from here on
abbrev pub invariant-each : goal.invariant-each
invariant-each g l = record {
  bound : l.index ≤ length l.events;
  grows : Grows l.fn.terms.nodes.keys l.terms.nodes.keys;
  next : l.next ≡ place_next (drop l.index l.events);
  stack : Stands l.terms.nodes.keys (reverse l.stack.items) (items (g.S.Spelled.spelling l.words) (alias_terms l.fn.terms.nodes.keys l.aliases) (drop l.index l.events));
  numbers : Stands l.terms.nodes.keys (reverse l.numbers.items) (begun (g.S.Spelled.spelling l.words) (alias_terms l.fn.terms.nodes.keys l.aliases) (drop l.index l.events));
}

abbrev pub decreases-each : goal.decreases-each
decreases-each g l = l.index
