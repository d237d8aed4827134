use Rattle.std.proofs.Common.{arith}
use Rattle.std.proofs.lemmas.Grind.{common_steps}
use Rattle.conversion_target.specs.Targets.{rule_in}
use Rattle.conversion_target.proofs.TargetLaws.{rule_past}
use Rattle.conversion_target.proofs.answers.rule_for.Goals as goal

pub each-preserved : goal.each-preserved
each-preserved c =
    rule_past c.args.names.now c.args.rules.now c.args.name.now c.index-names-place.result (rule_in c.args.names.now c.args.rules.now c.args.name.now) c.each.place
    c.requires c.each-test.true c.index-names-place.is (grind (arith, common_steps)) c.each.invariant
