use Rattle.std.proofs.Common.{◌≡◌, length}
use Rattle.driver_cases.proofs.passes.rules.Given as goal

abbrev pub invariant-each : goal.invariant-each
invariant-each l = length l.rules.items ≡ l.dynamic-index
