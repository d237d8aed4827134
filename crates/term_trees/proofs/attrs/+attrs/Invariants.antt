use Rattle.std.proofs.Common.{◌≡◌, ◌≤◌, ◌+◌, ◌*◌, ◌++◌}
use Rattle.term_table.specs.Terms.{term_at}
use Rattle.event_trees.specs.Attrs.{entries_of, items_of}
use Rattle.event_trees.specs.Wording.{wording_of}
use Rattle.term_trees.proofs.attrs.+attrs.Given as goal

abbrev pub decreases-attr_at : goal.decreases-attr_at
decreases-attr_at l = 2 * l.number + 2

abbrev pub decreases-attr_of : goal.decreases-attr_of
decreases-attr_of l = 2 * l.number + 1

abbrev pub decreases-items_at : goal.decreases-items_at
decreases-items_at l = 2 * l.number + 2

abbrev pub decreases-entries_at : goal.decreases-entries_at
decreases-entries_at l = 2 * l.number + 2

-- the members so far, and those that are left
abbrev pub invariant-items_at-each : goal.invariant-items_at-each
invariant-items_at-each l = record {
  bound : l.rest ≤ l.number;
  is : l.items ++ items_of (wording_of l.source.text.now l.source.words.now) (term_at l.terms.nodes.keys l.rest)
      ≡ items_of (wording_of l.source.text.now l.source.words.now) (term_at l.terms.nodes.keys l.number);
}

abbrev pub decreases-items_at-each : goal.decreases-items_at-each
decreases-items_at-each l = l.rest

abbrev pub invariant-entries_at-each : goal.invariant-entries_at-each
invariant-entries_at-each l = record {
  bound : l.rest ≤ l.number;
  is : l.entries.items ++ entries_of (wording_of l.source.text.now l.source.words.now) (term_at l.terms.nodes.keys l.rest)
      ≡ entries_of (wording_of l.source.text.now l.source.words.now) (term_at l.terms.nodes.keys l.number);
}

abbrev pub decreases-entries_at-each : goal.decreases-entries_at-each
decreases-entries_at-each l = l.rest
