use Rattle.std.proofs.Common.{false, [], ◌∷◌}
use Rattle.value_code.specs.Models.{value_of}
use Rattle.call_code.proofs.CallLaws.{goes_on, stops, if_ok}
use Rattle.call_code.proofs.spreads.put_head.Goals as goal

pub returns-then-not-branch : goal.returns-then-not-branch
returns-then-not-branch c =
    stops c.in_ok-put_part.field-0 c.args.all.now c.put_part.new.all c.put_part.new.all ((0 ∷ []) ∷ []) ((1 ∷ []) ∷ (2 ∷ []) ∷ []) (value_of c.args.v.now) c.if-not-branch.true c.in_ok-put_part.ensures

pub returns-then-not-branch-2 : goal.returns-then-not-branch-2
returns-then-not-branch-2 c =
    goes_on c.in_ok-put_part.field-0 false c.args.all.now c.put_part.new.all c.put_part-2.new.all ((0 ∷ []) ∷ []) ((1 ∷ []) ∷ (2 ∷ []) ∷ []) (value_of c.args.v.now) c.if-not-branch.false c.in_ok-put_part.ensures
    (stops c.in_ok-put_part-2.field-0 c.put_part.new.all c.put_part-2.new.all c.put_part-2.new.all ((1 ∷ []) ∷ []) ((2 ∷ []) ∷ []) (value_of c.args.v.now) c.if-not-branch-2.true c.in_ok-put_part-2.ensures)

pub returns : goal.returns
returns c =
    if_ok c.put_part-3.result
    (λ done last.
    goes_on c.in_ok-put_part.field-0 done c.args.all.now c.put_part.new.all c.put_part-3.new.all ((0 ∷ []) ∷ []) ((1 ∷ []) ∷ (2 ∷ []) ∷ []) (value_of c.args.v.now) c.if-not-branch.false c.in_ok-put_part.ensures
    (goes_on c.in_ok-put_part-2.field-0 done c.put_part.new.all c.put_part-2.new.all c.put_part-3.new.all ((1 ∷ []) ∷ []) ((2 ∷ []) ∷ []) (value_of c.args.v.now) c.if-not-branch-2.false c.in_ok-put_part-2.ensures last))
    c.put_part-3.ensures
