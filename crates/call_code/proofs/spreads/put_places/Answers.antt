use Rattle.std.proofs.Common.{◌≡◌, ◌+◌, ◌-◌, suc, refl, arith}
use Rattle.value_code.specs.Models.{value_of}
use Rattle.call_code.proofs.CallLaws.{place_put, place_missing}
use Rattle.call_code.proofs.spreads.put_places.Goals as goal

pub returns-then-not-branch : goal.returns-then-not-branch
returns-then-not-branch c =
    let whole : c.args.rank ≡ c.loop-i.i + suc (c.args.rank - (c.loop-i.i + 1)) = omega (arith, c.loop-i-test.true) in
    place_missing c.in_ok-put_part.field-0 c.args.all.now c.loop-i.all c.put_part.new.all c.args.field c.loop-i.i (c.args.rank - (c.loop-i.i + 1)) c.args.rank (value_of c.args.v.now)
    c.if-not-branch.true whole c.loop-i.invariant c.in_ok-put_part.ensures

pub loop-i-preserved : goal.loop-i-preserved
loop-i-preserved c =
    place_put c.in_ok-put_part.field-0 c.args.all.now c.loop-i.all c.put_part.new.all c.args.field c.loop-i.i (c.loop-i.i + 1) (value_of c.args.v.now)
    c.if-not-branch.false refl c.loop-i.invariant c.in_ok-put_part.ensures
