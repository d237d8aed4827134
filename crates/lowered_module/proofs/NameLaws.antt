-- The properties of an operation's tree.
use Rattle.std.proofs.Common.{◌≡◌, ap}
use Rattle.tree_model.specs.declared.op_tree.OpTree.{OpTree, out-OpTree, fold_out-OpTree}
use Rattle.plain_tree.specs.Attrs.{plain_entries}
use Rattle.plain_tree.specs.Ops.{Op, Blocks, PlainBlock, block_at, op_at, region_at, plain_op}
use Rattle.pattern_model.specs.ModuleStep.{props_of}

pub props_at : (o : OpTree) → props_of (plain_op o) ≡ plain_entries (out-OpTree o).props
unfolding plain_op
props_at o = ap props_of (fold_out-OpTree PlainBlock Op Blocks block_at op_at region_at o)

pub ruleset names = (props_at)
