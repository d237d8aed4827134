use Rattle.plain_tree.specs.Ops.{plain_op}
use Rattle.stand_ins.specs.Tables.{stands_for}
use Rattle.tree_reconcile.proofs.reconcile.unused_by_values.Goals as goal

pub returns : goal.returns
returns c = c.requires (stands_for c.new.result) (plain_op c.in_ok-tree.tree) c.new.ensures.itself c.in_ok-tree.ensures
