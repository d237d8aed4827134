use Rattle.std.proofs.Common.{◌≡◌, ◌++◌, drop}
use Rattle.scf_rows.specs.Trees.{tests_trees}
use Rattle.scf_rows.proofs.switches.push_tests.Given as goal

abbrev pub invariant-each : goal.invariant-each
invariant-each l = l.pieces ++ tests_trees l.index l.place (drop l.place l.numbers) (drop l.place l.cases) l.default ≡ l.initial.pieces ++ tests_trees l.index 0 l.numbers l.cases l.default
