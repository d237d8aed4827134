use Rattle.machine_code.proofs.RunLaws.{integers_more, integers_all}
use Rattle.machine_code.proofs.external.integers.Goals as goal

pub loop-n-preserved : goal.loop-n-preserved
loop-n-preserved c = integers_more c.loop-n.all c.push.new.self c.args.ns.now c.loop-n.n-index c.loop-n.invariant c.loop-n-test.true c.in_ok-push.ensures.ok

pub returns : goal.returns
returns c = integers_all c.loop-n.all c.args.ns.now c.loop-n.n-index c.loop-n.invariant c.loop-n-test.false
