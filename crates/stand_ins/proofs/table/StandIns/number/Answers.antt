use Rattle.std.proofs.Common.{◌≡◌, sym, ap, ◌∙◌}
use Rattle.stand_ins.proofs.table.StandIns.number.Goals as goal

pub each-smaller : goal.each-smaller
each-smaller c = c.in-Some.ensures.nearer

pub returns-clause-number : goal.returns-clause-number
returns-clause-number c =
    sym (c.step.ensures.end c.in_default.is) ∙ ap (λ f. f c.each.reached) c.each.invariant.1 ∙ c.each.invariant.2
