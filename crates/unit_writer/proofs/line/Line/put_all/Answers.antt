use Rattle.std.proofs.Common.{◌+◌, ap, ◌∙◌}
use Rattle.unit_writer.proofs.LineLaws.{steps_next}
use Rattle.unit_writer.proofs.line.Line.put_all.Goals as goal

pub loop-step-preserved : goal.loop-step-preserved
loop-step-preserved c =
    steps_next _ _ _ _ _ _ _ c.args.steps.now c.loop-step.step-index c.loop-step.first c.step-item.result c.loop-step-test.true c.step-item.is _ c.in_ok-first.first (c.in_ok-first.ensures ∙ ap (λ k. c.loop-step.first + k) c.in_ok-count_of.ensures)
    c.loop-step.invariant c.in_ok-put.ensures
