use Rattle.std.proofs.Common.{◌≡◌, ℕ, take}
use Rattle.tree_reconcile.specs.Lines.{lines_at, uses}
use Rattle.tree_reconcile.specs.Views.{holds}
use Rattle.tree_reconcile.proofs.used.all_used.Given as goal

abbrev pub invariant-each : goal.invariant-each
invariant-each l = (v : ℕ) → holds l.used v ≡ uses (lines_at (take l.op-index l.ops)) v
