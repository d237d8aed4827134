use Rattle.std.proofs.Common.{◌≡◌, ◌+◌, ◌++◌, drop}
use Rattle.scf_rows.specs.Trees.{case_trees}
use Rattle.scf_rows.proofs.switches.push_cases.Given as goal

abbrev pub invariant-each : goal.invariant-each
invariant-each l = l.pieces ++ case_trees (l.place + 1) (drop l.place l.cases) ≡ l.initial.pieces ++ case_trees 1 l.cases
