use Rattle.std.proofs.Common.{◌≡◌, ◌≤◌, drop, length}
use Rattle.tree_reconcile.specs.Lines as model
use Rattle.tree_reconcile.specs.Lines.{lines_at}
use Rattle.tree_reconcile.specs.Views.{holds}
use Rattle.tree_reconcile.proofs.used.used_values.Given as goal

abbrev pub invariant-each : goal.invariant-each
invariant-each l = (l.index ≤ length l.ops) × (holds l.used ≡ model.with_lines (lines_at (drop l.index l.ops)) (model.used_by_others (lines_at l.ops)))

abbrev pub decreases-each : goal.decreases-each
decreases-each l = l.index
