use Rattle.std.proofs.Common.{◌≡◌, ◌≤◌, ◌+◌}
use Rattle.term_table.specs.Terms.{term_at}
use Rattle.event_trees.specs.Numbers.{length_of}
use Rattle.term_trees.proofs.values.length_of.Given as goal

-- those so far, and those that are left
abbrev pub invariant-each : goal.invariant-each
invariant-each l = record {
  bound : l.rest ≤ l.number;
  is : l.count + length_of (term_at l.terms.nodes.keys l.rest) ≡ length_of (term_at l.terms.nodes.keys l.number);
}

abbrev pub decreases-each : goal.decreases-each
decreases-each l = l.rest
