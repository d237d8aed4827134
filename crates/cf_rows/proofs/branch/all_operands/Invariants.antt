use Rattle.std.proofs.Common.{◌≡◌, ◌++◌, drop}
use Rattle.cf_rows.specs.Branches.{operands_from}
use Rattle.cf_rows.proofs.branch.all_operands.Given as goal

abbrev pub invariant-each : goal.invariant-each
invariant-each l = l.sources ++ operands_from l.place (drop l.place l.types) ≡ operands_from 0 l.types
