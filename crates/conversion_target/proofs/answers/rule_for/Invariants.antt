use Rattle.std.proofs.Common.{◌≡◌, drop}
use Rattle.conversion_target.specs.Targets.{rule_in}
use Rattle.conversion_target.proofs.answers.rule_for.Given as goal

abbrev pub invariant-each : goal.invariant-each
invariant-each l = rule_in (drop l.place l.names) (drop l.place l.rules) l.name ≡ rule_in l.names l.rules l.name
