use Rattle.plain_tree.specs.Ops.{plain_op}
use Rattle.pass_fold.specs.Views.{made_or}
use Rattle.pass_fold.proofs.RunLaws.{end_step, err_step, ok_step}
use Rattle.pass_fold.proofs.running.run_passes.Goals as goal

pub each-preserved : goal.each-preserved
each-preserved g c = ok_step c.args.bits c.args.function c.each.position _ c.args.uses.now (plain_op c.args.f.now) (made_or (plain_op c.args.f.now) c.each.made) (plain_op c.current-now.result.now) c.in-Ok.next c.in_ok-next.field-0 c.each-test.true c.in_ok-next.ensures c.in-Ok.is c.current-now.ensures c.each.invariant

pub returns-in-Err : goal.returns-in-Err
returns-in-Err g c = err_step c.args.bits c.args.function c.each.position _ c.args.uses.now (plain_op c.args.f.now) (made_or (plain_op c.args.f.now) c.each.made) (plain_op c.current-now.result.now) c.in-Err.failed c.in_ok-next.field-0 c.each-test.true c.in_ok-next.ensures c.in-Err.is c.current-now.ensures c.each.invariant

pub returns : goal.returns
returns g c = end_step c.args.bits c.args.function c.each.position c.args.uses.now (plain_op c.args.f.now) (made_or (plain_op c.args.f.now) c.each.made) c.each-test.false c.each.invariant
