use Rattle.std.proofs.Common.{◌≡◌, ◌≤◌, ◌+◌, ◌*◌, ◌++◌}
use Rattle.std.specs.Prelude.{max}
use Rattle.plain_tree.specs.Types.{type_trees}
use Rattle.term_table.specs.Terms.{term_at}
use Rattle.text_types.specs.Plain.{types_of}
use Rattle.term_trees.proofs.types.+types.Given as goal

abbrev pub decreases-type_at : goal.decreases-type_at
decreases-type_at l = 2 * l.number + 1

abbrev pub decreases-type_of : goal.decreases-type_of
decreases-type_of l = 2 * max l.node.left l.node.right + 2

abbrev pub decreases-types_at : goal.decreases-types_at
decreases-types_at l = 2 * l.number + 1

-- the types so far, and those that are left
abbrev pub invariant-types_at-each : goal.invariant-types_at-each
invariant-types_at-each l = record {
  bound : l.rest ≤ l.number;
  is : l.types ++ type_trees (types_of (term_at l.terms.nodes.keys l.rest)) ≡ type_trees (types_of (term_at l.terms.nodes.keys l.number));
}

abbrev pub decreases-types_at-each : goal.decreases-types_at-each
decreases-types_at-each l = l.rest
