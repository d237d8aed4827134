use Rattle.std.proofs.Common.{refl}
use Rattle.layout_code.proofs.SizeLaws.{size_taken, size_undefined, size_outside, get_is}
use Rattle.layout_code.proofs.sizes.sizes_from.Goals as goal

pub returns-in-Undefined : goal.returns-in-Undefined
returns-in-Undefined c =
    size_undefined c.args.bits.bits c.args.fixed.now c.args.xs.now c.in_ok-t.field-0 c.loop-i.i c.loop-i.rest.now c.loop-i.all _ (get_is c.args.fixed.now c.loop-i.i _ c.loop-i-test.true)
    c.in-Undefined.is c.in_ok-t.ensures c.loop-i.invariant

pub returns-in-Outside : goal.returns-in-Outside
returns-in-Outside c =
    size_outside c.args.bits.bits c.args.fixed.now c.args.xs.now c.in_ok-t.field-0 c.loop-i.i c.loop-i.rest.now c.loop-i.all _ (get_is c.args.fixed.now c.loop-i.i _ c.loop-i-test.true)
    c.in-Outside.is c.in_ok-t.ensures c.loop-i.invariant

pub loop-i-preserved : goal.loop-i-preserved
loop-i-preserved c =
    size_taken c.args.bits.bits c.args.fixed.now c.args.xs.now c.in_ok-t.field-0 c.loop-i.i c.in-Gives.t c.in-Gives.t.size c.loop-i.rest.now c.split_at.result.1.now c.loop-i.all c.push.new.self _
    (get_is c.args.fixed.now c.loop-i.i _ c.loop-i-test.true) c.in-Gives.is c.in_ok-t.ensures refl c.split_at.ensures.back c.in_ok-push-in-Gives.ensures.ok c.loop-i.invariant
