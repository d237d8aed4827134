use Rattle.std.proofs.Common.{◌≡◌, ◌≤◌, drop, length}
use Rattle.tree_reconcile.specs.Lines as model
use Rattle.tree_reconcile.specs.Lines.{lines_at}
use Rattle.tree_reconcile.specs.Views.{holds}
use Rattle.tree_reconcile.proofs.used.are_forward.Given as goal

abbrev pub invariant-each : goal.invariant-each
invariant-each l =
    (l.index ≤ length l.ops) × (l.forward ≡ model.is_forward (lines_at (drop l.index l.ops)))
    × (holds l.results ≡ model.is_result (lines_at (drop l.index l.ops)))

abbrev pub decreases-each : goal.decreases-each
decreases-each l = l.index
