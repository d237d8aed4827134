-- The loop ends where no comma comes next, where a stage does not fit, and goes on with one stage more.
use Rattle.std.proofs.Common.{arith, length, ◌-◌, ◌+◌}
use Rattle.grammar_model.proofs.Loops.{no_more, stops_early, one_more}
use Rattle.pipeline_text.proofs.reader.read_more_items.Goals as goal

pub returns-then-not-next_fits : goal.returns-then-not-next_fits
returns-then-not-next_fits c = no_more c.each.invariant (grind arith)

pub returns-in_err-stage : goal.returns-in_err-stage
returns-in_err-stage c = stops_early c.each.invariant (grind arith) (length c.args.tokens.now - (c.each.counter + 1)) (omega arith)
    c.in_err-stage.field-0.0 c.in_err-stage.ensures _ c.from_residual-in_err-stage.result c.from_residual-in_err-stage.ensures.1

pub each-preserved : goal.each-preserved
each-preserved c = rw c.in_ok-push-2.ensures.ok
    (one_more c.each.invariant (grind arith) (length c.args.tokens.now - (c.each.counter + 1)) (omega arith) c.in_ok-stage.stage c.in_ok-stage.behind.now c.in_ok-stage.ensures)
