-- The name of an operation's tree.
use Rattle.std.proofs.Common.{◌≡◌, ap}
use Rattle.tree_model.specs.declared.op_tree.OpTree.{OpTree, out-OpTree, fold_out-OpTree}
use Rattle.plain_tree.specs.Ops.{Op, Blocks, PlainBlock, block_at, op_at, region_at, plain_op}
use Rattle.conversion_model.specs.Targets.{name_of}

pub name_at : (o : OpTree) → name_of (plain_op o) ≡ (out-OpTree o).name
unfolding plain_op
name_at o = ap name_of (fold_out-OpTree PlainBlock Op Blocks block_at op_at region_at o)

pub ruleset names = (name_at)
