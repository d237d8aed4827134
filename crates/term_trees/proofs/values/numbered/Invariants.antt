use Rattle.std.proofs.Common.{◌≡◌, ◌≤◌, ◌++◌}
use Rattle.plain_tree.specs.Types.{type_trees}
use Rattle.term_table.specs.Terms.{term_at}
use Rattle.text_types.specs.Plain.{types_of}
use Rattle.event_trees.specs.Levels.{numbered}
use Rattle.term_trees.proofs.values.numbered.Given as goal

-- the values so far, and those that are left
abbrev pub invariant-each : goal.invariant-each
invariant-each l = record {
  bound : l.rest ≤ l.number;
  is : l.values ++ numbered l.value (type_trees (types_of (term_at l.terms.nodes.keys l.rest))) ≡ numbered l.first (type_trees (types_of (term_at l.terms.nodes.keys l.number)));
}

abbrev pub decreases-each : goal.decreases-each
decreases-each l = l.rest
