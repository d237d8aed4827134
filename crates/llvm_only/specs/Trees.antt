-- The same of the blocks and regions of a tree.
use Rattle.std.specs.Prelude.{Bool}
use Rattle.tree_model.specs.declared.op_tree.BlockTree.{BlockTree}
use Rattle.tree_model.specs.declared.op_tree.RegionTree.{RegionTree}
use Rattle.tree_model.specs.declared.op_tree.BlockTree.TheFolds.{fold-BlockTree, fold-RegionTree}
use Rattle.plain_tree.specs.Ops.{Op, Blocks, PlainBlock, block_at, op_at, region_at}
use Rattle.llvm_only.specs.Llvm.{ops_llvm, blocks_llvm}

-- the plain form of a block, and of a region
unfoldable pub block_plain : BlockTree → PlainBlock
block_plain = fold-BlockTree PlainBlock Op Blocks block_at op_at region_at

unfoldable pub region_plain : RegionTree → Blocks
region_plain = fold-RegionTree PlainBlock Op Blocks block_at op_at region_at

abbrev pub block_llvm : BlockTree → Bool
block_llvm b = ops_llvm (block_plain b).ops

abbrev pub region_llvm : RegionTree → Bool
region_llvm r = blocks_llvm (region_plain r)
