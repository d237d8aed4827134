use Rattle.std.proofs.Common.{◌≡◌, ℕ, take}
use Rattle.tree_reconcile.specs.Lines as model
use Rattle.tree_reconcile.specs.Lines.{lines_at}
use Rattle.tree_reconcile.specs.Views.{holds}
use Rattle.tree_reconcile.proofs.used.used_by_others.Given as goal

abbrev pub invariant-each : goal.invariant-each
invariant-each l = (v : ℕ) → holds l.used v ≡ model.used_by_others (lines_at (take l.op-index l.ops)) v
