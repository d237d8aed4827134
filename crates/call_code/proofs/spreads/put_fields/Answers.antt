use Rattle.std.proofs.Common.{[], ◌∷◌, ◌++◌}
use Rattle.value_code.specs.Models.{value_of}
use Rattle.call_code.specs.Lists.{places}
use Rattle.call_code.proofs.CallLaws.{goes_on, stops, if_ok}
use Rattle.call_code.proofs.spreads.put_fields.Goals as goal

pub returns-then-not-branch : goal.returns-then-not-branch
returns-then-not-branch c =
    stops c.in_ok-put_head.field-0 c.args.all.now c.put_head.new.all c.put_head.new.all ((0 ∷ []) ∷ (1 ∷ []) ∷ (2 ∷ []) ∷ []) (places 3 c.args.rank ++ places 4 c.args.rank) (value_of c.args.v.now)
    c.if-not-branch.true c.in_ok-put_head.ensures

pub returns : goal.returns
returns c =
    if_ok c.put_tail.result
    (λ done last.
    goes_on c.in_ok-put_head.field-0 done c.args.all.now c.put_head.new.all c.put_tail.new.all ((0 ∷ []) ∷ (1 ∷ []) ∷ (2 ∷ []) ∷ []) (places 3 c.args.rank ++ places 4 c.args.rank) (value_of c.args.v.now)
    c.if-not-branch.false c.in_ok-put_head.ensures last)
    c.put_tail.ensures
