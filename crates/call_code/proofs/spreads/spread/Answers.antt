use Rattle.std.proofs.Common.{sym, arith}
use Rattle.call_code.proofs.CallLaws.{argument_put, argument_missing, too_few, too_many, first_of_list, get_is}
use Rattle.call_code.proofs.spreads.spread.Goals as goal

pub returns-in_default : goal.returns-in_default
returns-in_default c =
    let shape = first_of_list c.args.shapes.now c.loop-i.i c.loop-i-test.true in
    too_few c.args.shapes.now c.args.xs.now c.loop-i.i c.loop-i.all shape.0 shape.1 (sym c.in_default.ensures) c.loop-i.invariant

pub returns-then-not-branch : goal.returns-then-not-branch
returns-then-not-branch c =
    argument_missing c.args.shapes.now c.args.xs.now c.in_ok-put_argument.field-0 c.loop-i.i c.loop-i.all c.put_argument.new.all _ c.in-Some.x.now c.if-not-branch.true
    (get_is c.args.shapes.now c.loop-i.i _ c.loop-i-test.true) (sym c.in-Some.ensures) c.in_ok-put_argument.ensures c.loop-i.invariant

pub loop-i-preserved : goal.loop-i-preserved
loop-i-preserved c =
    argument_put c.args.shapes.now c.args.xs.now c.in_ok-put_argument.field-0 c.loop-i.i c.loop-i.all c.put_argument.new.all _ c.in-Some.x.now c.if-not-branch.false
    (get_is c.args.shapes.now c.loop-i.i _ c.loop-i-test.true) (sym c.in-Some.ensures) c.in_ok-put_argument.ensures c.loop-i.invariant

pub returns-then-shapes-xs : goal.returns-then-shapes-xs
returns-then-shapes-xs c =
    too_many c.args.shapes.now c.args.xs.now c.loop-i.i c.loop-i.all (omega (arith, c.loop-i-test.false, c.loop-i.auto.i-end)) c.if-shapes-xs.true c.loop-i.invariant
