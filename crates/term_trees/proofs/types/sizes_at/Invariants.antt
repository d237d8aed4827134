use Rattle.std.proofs.Common.{◌≡◌, ◌≤◌, ◌++◌}
use Rattle.term_table.specs.Terms.{term_at}
use Rattle.text_types.specs.Plain.{sizes_of}
use Rattle.term_trees.proofs.types.sizes_at.Given as goal

-- the sizes so far, and those that are left
abbrev pub invariant-each : goal.invariant-each
invariant-each l = record {
  bound : l.rest ≤ l.number;
  is : l.sizes ++ sizes_of (term_at l.terms.nodes.keys l.rest) ≡ sizes_of (term_at l.terms.nodes.keys l.number);
}

abbrev pub decreases-each : goal.decreases-each
decreases-each l = l.rest
