use Rattle.plain_tree.specs.Ops.{plain_op}
use Rattle.tree_reconcile.proofs.reconcile.pairs_by_plan.Goals as goal

pub returns : goal.returns
returns c = c.requires.plan (plain_op c.in_ok-tree.tree) c.in_ok-tree.ensures
