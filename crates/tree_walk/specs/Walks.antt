-- The operations of a tree in the order of the text.
use Rattle.std.specs.Prelude.{List, [], ◌∷◌, ◌++◌, map}
use Rattle.std.specs.Borrow.{Bor}
use Rattle.tree_model.specs.declared.op_tree.OpTree.{OpTree}
use Rattle.tree_model.specs.declared.op_tree.BlockTree.{BlockTree}
use Rattle.tree_model.specs.declared.op_tree.RegionTree.{RegionTree}
use Rattle.tree_model.specs.declared.op_tree.BlockTree.TheFolds.{fold-BlockTree, fold-RegionTree}
use Rattle.plain_tree.specs.Ops.{Op, op, Ops, end_of_ops, more_ops, Regions, end_of_regions, region, Blocks, end_of_blocks, block, PlainBlock, block_at, op_at, region_at, plain_op}

-- the plain form of a block, of a region and of each operation
unfoldable pub block_plain : BlockTree → PlainBlock
block_plain = fold-BlockTree PlainBlock Op Blocks block_at op_at region_at

unfoldable pub region_plain : RegionTree → Blocks
region_plain = fold-RegionTree PlainBlock Op Blocks block_at op_at region_at

abbrev pub plain_ops : List (Bor OpTree) → List Op
plain_ops os = map (λ o. plain_op o.now) os

abbrev mutual
  -- an operation in front of those in its regions
  pub op_list : Op → List Op
  op_list (op k results operands regions successors) = op k results operands regions successors ∷ regions_list regions

  pub ops_list : Ops → List Op
  ops_list end_of_ops = []
  ops_list (more_ops o os) = op_list o ++ ops_list os

  pub regions_list : Regions → List Op
  regions_list end_of_regions = []
  regions_list (region blocks more) = region_list blocks ++ regions_list more

  pub region_list : Blocks → List Op
  region_list end_of_blocks = []
  region_list (block label args ops more) = ops_list ops ++ region_list more

abbrev pub block_list : PlainBlock → List Op
block_list b = ops_list b.ops
