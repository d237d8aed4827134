use Rattle.std.proofs.Common.{◌≡◌, length}
use Rattle.driver_cases.proofs.passes.dynamic_names.Given as goal

abbrev pub invariant-each : goal.invariant-each
invariant-each l = length l.names ≡ l.dynamic-index
