use Rattle.std.proofs.Common.{◌≡◌, take}
use Rattle.tree_reconcile.specs.Lines.{lines_at}
use Rattle.tree_reconcile.specs.Plans as model
use Rattle.tree_reconcile.specs.Views.{singles_at}
use Rattle.tree_reconcile.proofs.singles.singles.Given as goal

abbrev pub invariant-loop-op : goal.invariant-loop-op
invariant-loop-op l = singles_at l.list.items ≡ model.singles (lines_at (take l.op-index l.ops))
