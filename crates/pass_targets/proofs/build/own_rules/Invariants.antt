use Rattle.std.proofs.Common.{◌≡◌, take, map}
use Rattle.conversion_target.specs.declared.rule.LegalRule.TheVariants.{TypesOwn}
use Rattle.row_code.specs.Infos.{texts}
use Rattle.pass_targets.proofs.build.own_rules.Given as goal

abbrev pub invariant-each : goal.invariant-each
invariant-each l = l.rules.items ≡ map (λ n. TypesOwn) (texts (take l.name-index l.names))
