use Rattle.std.proofs.Common.{◌≡◌, length, take}
use Rattle.allocators.proofs.steps.cut.Given as goal

abbrev pub decreases-each : goal.decreases-each
decreases-each l = length l.funcs

abbrev pub invariant-each : goal.invariant-each
invariant-each l = take l.count l.funcs ≡ take l.count l.initial.funcs
