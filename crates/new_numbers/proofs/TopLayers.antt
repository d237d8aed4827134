-- The tops behind each layer of a tree.
use Rattle.std.proofs.Common.{◌≡◌, map, ap}
use Rattle.std.proofs.lemmas.Grind.{common_steps}
use Rattle.tree_model.specs.declared.op_tree.OpTree.{OpTree, out-OpTree, fold_out-OpTree}
use Rattle.tree_model.specs.declared.op_tree.BlockTree.{BlockTree, out-BlockTree, fold_out-BlockTree}
use Rattle.tree_model.specs.declared.op_tree.RegionTree.{RegionTree, out-RegionTree, fold_out-RegionTree}
use Rattle.plain_tree.specs.Ops.{Op, Blocks, PlainBlock, block_at, op_at, region_at, blocks_in, ops_in, regions_in, plain_op, plain_values}
use Rattle.new_numbers.specs.declared.tops.Tops.{Tops}
use Rattle.new_numbers.specs.Tops.{block_plain, over_blocks, over_labels, over_numbers, over_op, over_regions, over_values, region_plain}

pub over_op_at : (o : OpTree) (t : Tops) → over_op (plain_op o) t
    ≡ over_labels (out-OpTree o).successors (over_regions (regions_in (map region_plain (out-OpTree o).regions)) (over_numbers (out-OpTree o).operands (over_values (plain_values (out-OpTree o).results) t)))
unfolding plain_op region_plain
over_op_at o t = ap (λ x. over_op x t) (fold_out-OpTree PlainBlock Op Blocks block_at op_at region_at o)

pub over_region_at : (r : RegionTree) (t : Tops) → over_blocks (region_plain r) t ≡ over_blocks (blocks_in (map block_plain (out-RegionTree r).blocks)) t
unfolding block_plain region_plain
over_region_at r t = ap (λ x. over_blocks x t) (fold_out-RegionTree PlainBlock Op Blocks block_at op_at region_at r)

pub block_label_at : (b : BlockTree) → (block_plain b).label ≡ (out-BlockTree b).label
unfolding block_plain
block_label_at b = ap (λ (x : PlainBlock). x.label) (fold_out-BlockTree PlainBlock Op Blocks block_at op_at region_at b)

pub block_args_at : (b : BlockTree) → (block_plain b).args ≡ plain_values (out-BlockTree b).args
unfolding block_plain
block_args_at b = ap (λ (x : PlainBlock). x.args) (fold_out-BlockTree PlainBlock Op Blocks block_at op_at region_at b)

pub block_ops_at : (b : BlockTree) → (block_plain b).ops ≡ ops_in (map plain_op (out-BlockTree b).ops)
unfolding block_plain plain_op
block_ops_at b = ap (λ (x : PlainBlock). x.ops) (fold_out-BlockTree PlainBlock Op Blocks block_at op_at region_at b)

pub ruleset layers = (common_steps, over_op_at, over_region_at, block_label_at, block_args_at, block_ops_at)
