-- How many operations there are in the parts of a tree, by which a walk through it ends.
use Rattle.std.specs.Prelude.{ℕ, List, map}
use Rattle.tree_model.specs.declared.op_tree.OpTree.{OpTree}
use Rattle.tree_model.specs.declared.op_tree.BlockTree.{BlockTree}
use Rattle.tree_model.specs.declared.op_tree.RegionTree.{RegionTree}
use Rattle.plain_tree.specs.Ops.{blocks_in, ops_in, plain_op, regions_in}
use Rattle.conversion_model.specs.Items.{blocks_size, op_size, ops_size, regions_size}
use Rattle.tree_uses.specs.Edited.{plain_block, plain_region}

unfoldable pub op_room : OpTree → ℕ
op_room o = op_size (plain_op o)

unfoldable pub ops_room : List OpTree → ℕ
ops_room os = ops_size (ops_in (map plain_op os))

unfoldable pub region_room : RegionTree → ℕ
region_room r = blocks_size (plain_region r)

unfoldable pub regions_room : List RegionTree → ℕ
regions_room rs = regions_size (regions_in (map plain_region rs))

unfoldable pub block_room : BlockTree → ℕ
block_room b = ops_size (plain_block b).ops

unfoldable pub blocks_room : List BlockTree → ℕ
blocks_room bs = blocks_size (blocks_in (map plain_block bs))
