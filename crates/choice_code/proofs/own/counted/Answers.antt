use Rattle.choice_code.proofs.OwnLaws.{number_more}
use Rattle.choice_code.proofs.own.counted.Goals as goal

pub each-preserved : goal.each-preserved
each-preserved c = number_more c.args.count c.each.number c.each.numbers c.push.new.self c.each-test.true c.in_ok-push.ensures.ok c.each.invariant
