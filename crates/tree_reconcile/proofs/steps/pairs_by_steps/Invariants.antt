use Rattle.std.proofs.Common.{◌≡◌, ◌-◌}
use Rattle.plain_tree.specs.Ops.{plain_op}
use Rattle.conversion_model.specs.Reconciled as model
use Rattle.tree_reconcile.proofs.steps.pairs_by_steps.Given as goal

abbrev pub invariant-loop-step : goal.invariant-loop-step
invariant-loop-step l = model.pairs_left_out (l.room - l.step) (plain_op l.tree) ≡ model.pairs_left_out l.room (plain_op l.fn.f)
