-- The plain forms of blocks and regions.
use Rattle.tree_model.specs.declared.op_tree.BlockTree.{BlockTree}
use Rattle.tree_model.specs.declared.op_tree.RegionTree.{RegionTree}
use Rattle.tree_model.specs.declared.op_tree.BlockTree.TheFolds.{fold-BlockTree, fold-RegionTree}
use Rattle.plain_tree.specs.Ops.{Op, Blocks, PlainBlock, block_at, op_at, region_at}

unfoldable pub plain_block : BlockTree → PlainBlock
plain_block = fold-BlockTree PlainBlock Op Blocks block_at op_at region_at

unfoldable pub plain_region : RegionTree → Blocks
plain_region = fold-RegionTree PlainBlock Op Blocks block_at op_at region_at
