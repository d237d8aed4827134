use Rattle.tree_reconcile.specs.Views.{holds}
use Rattle.tree_reconcile.proofs.WholeLaws.{unused_once}
use Rattle.tree_reconcile.proofs.reconcile.used_at_once.Goals as goal

pub returns : goal.returns
returns c = λ to g itself edit.
    unused_once c.args.f.now c.args.ops.now c.args.room (holds c.in_ok-values.values) to g
    c.requires.ops c.requires.plain c.requires.forward c.requires.room c.in_ok-values.ensures itself edit
