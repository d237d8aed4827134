use Rattle.std.proofs.Common.{◌≡◌, ◌++◌, drop}
use Rattle.scf_rows.specs.Trees.{stand_trees}
use Rattle.scf_rows.proofs.products.push_stands.Given as goal

abbrev pub invariant-each : goal.invariant-each
invariant-each l = l.pieces ++ stand_trees (drop l.place l.results) (drop l.place l.values) ≡ l.initial.pieces ++ stand_trees l.results l.values
