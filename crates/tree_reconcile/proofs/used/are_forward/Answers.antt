use Rattle.std.proofs.Common.{◌-◌, drop, arith}
use Rattle.tree_reconcile.specs.Lines.{line_at, lines_at}
use Rattle.tree_reconcile.specs.Views.{holds}
use Rattle.tree_reconcile.proofs.UsedSteps.{forward_step, next_line}
use Rattle.tree_reconcile.proofs.used.are_forward.Goals as goal

pub each-preserved : goal.each-preserved
each-preserved c =
    let both = forward_step (lines_at (drop c.each.index c.args.ops.now)) (lines_at (drop (c.each.index - 1) c.args.ops.now)) (line_at c.index-ops-index.result.now) (holds c.each.results) (holds c.put_results.new.results) c.each.forward c.is_before-before.result c.both-forward.result
    (next_line c.args.ops.now c.each.index c.index-ops-index.result (omega arith) c.each.invariant.0 c.index-ops-index.is)
    c.each.invariant.2 c.in_ok-put_results.ensures c.each.invariant.1 c.is_before-before.ensures c.both-forward.ensures in
    (omega arith, both.0, both.1)
