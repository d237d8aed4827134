use Rattle.std.proofs.Common.{◌≡◌, ◌++◌, ◌-◌}
use Rattle.conversion_model.specs.Chosen.{counted}
use Rattle.choice_code.proofs.own.counted.Given as goal

abbrev pub invariant-each : goal.invariant-each
invariant-each l = l.numbers ++ counted l.number (l.count - l.number) ≡ counted 0 l.count
