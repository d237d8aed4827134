use Rattle.std.proofs.Common.{◌≡◌, ◌≤◌, ◌++◌}
use Rattle.term_table.specs.Terms.{term_at}
use Rattle.event_trees.specs.Attrs.{numbers_of}
use Rattle.event_trees.specs.Wording.{wording_of}
use Rattle.term_trees.proofs.spelled.numbers_at.Given as goal

-- the numbers so far, and those that are left
abbrev pub invariant-each : goal.invariant-each
invariant-each l = record {
  bound : l.rest ≤ l.number;
  is : l.numbers ++ numbers_of (wording_of l.source.text.now l.source.words.now) l.bits (term_at l.terms.nodes.keys l.rest)
      ≡ numbers_of (wording_of l.source.text.now l.source.words.now) l.bits (term_at l.terms.nodes.keys l.number);
}

abbrev pub decreases-each : goal.decreases-each
decreases-each l = l.rest
