use Rattle.call_code.proofs.CallLaws.{get_is}
use Rattle.call_code.proofs.GatherLaws.{taken, missing_values}
use Rattle.call_code.proofs.gathers.gathered.Goals as goal

pub returns-in-None : goal.returns-in-None
returns-in-None c =
    missing_values c.args.shapes.now c.args.xs.now c.loop-i.i c.in_ok-taken.field-0 c.loop-i.rest.now c.loop-i.all c.take_argument.new.all _ (get_is c.args.shapes.now c.loop-i.i _ c.loop-i-test.true)
    c.in-None.is c.in_ok-taken.ensures c.loop-i.invariant

pub loop-i-preserved : goal.loop-i-preserved
loop-i-preserved c =
    taken c.args.shapes.now c.args.xs.now c.loop-i.i c.in-Some.taken c.in_ok-taken.field-0 c.loop-i.rest.now c.split_at.result.1.now c.loop-i.all c.take_argument.new.all _
    (get_is c.args.shapes.now c.loop-i.i _ c.loop-i-test.true) c.in-Some.is c.in_ok-taken.ensures c.split_at.ensures.back c.loop-i.invariant
