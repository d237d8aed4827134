use Rattle.std.proofs.Common.{◌≡◌, ◌-◌}
use Rattle.plain_tree.specs.Ops.{plain_op}
use Rattle.conversion_model.specs.Reconciled as model
use Rattle.tree_reconcile.proofs.steps.unused_by_rounds.Given as goal

abbrev pub invariant-loop-round : goal.invariant-loop-round
invariant-loop-round l = model.unused_left_out (l.room - l.round) (plain_op l.tree) ≡ model.unused_left_out l.room (plain_op l.fn.f)
