use Rattle.plain_tree.specs.Ops.{plain_op}
use Rattle.tree_reconcile.proofs.WholeLaws.{room_enough, whole_is}
use Rattle.tree_reconcile.proofs.reconcile.reconciled.Goals as goal

pub unused_left_out-requires : goal.unused_left_out-requires
unused_left_out-requires c =
    room_enough (plain_op c.args.f) (plain_op c.in_ok-paired.paired) c.in_ok-sight.sight.room c.in_ok-paired.ensures c.in_ok-sight.ensures.room

pub returns : goal.returns
returns c =
    whole_is (plain_op c.args.f) (plain_op c.in_ok-paired.paired) (plain_op c.in_ok-tree.tree) c.in_ok-sight.sight.room c.in_ok-paired.ensures
    c.in_ok-sight.ensures.room c.in_ok-tree.ensures
