-- What a walk that gathers numbers needs: the numbers of a region, and each part of a longer list.
use Rattle.std.proofs.Common.{◌≡◌, List, ◌∷◌, ℕ, ◌++◌, map}
use Rattle.std.specs.Prelude.{flat_map}
use Rattle.std.proofs.lemmas.Grind.{common_steps}
use Rattle.tree_model.specs.declared.op_tree.BlockTree.{BlockTree, out-BlockTree, fold_out-BlockTree}
use Rattle.tree_model.specs.declared.op_tree.OpTree.{OpTree, out-OpTree, fold_out-OpTree}
use Rattle.tree_model.specs.declared.op_tree.RegionTree.{RegionTree, out-RegionTree, fold_out-RegionTree}
use Rattle.tree_shape.specs.NumbersOf.{numbers_of_values, block_values, op_values, region_values, block_labels, op_labels, region_labels, values_of_op, values_of_block, values_of_region, labels_of_op, labels_of_block, labels_of_region}

pub values_of_op_at : (o : OpTree) → values_of_op o ≡ numbers_of_values (out-OpTree o).results ++ (out-OpTree o).operands ++ flat_map (λ ns. ns) (map values_of_region (out-OpTree o).regions)
values_of_op_at o = fold_out-OpTree (List ℕ) (List ℕ) (List ℕ) block_values op_values region_values o

pub labels_of_op_at : (o : OpTree) → labels_of_op o ≡ (out-OpTree o).successors ++ flat_map (λ ns. ns) (map labels_of_region (out-OpTree o).regions)
labels_of_op_at o = fold_out-OpTree (List ℕ) (List ℕ) (List ℕ) block_labels op_labels region_labels o

pub values_of_block_at : (b : BlockTree) → values_of_block b ≡ numbers_of_values (out-BlockTree b).args ++ flat_map (λ ns. ns) (map values_of_op (out-BlockTree b).ops)
values_of_block_at b = fold_out-BlockTree (List ℕ) (List ℕ) (List ℕ) block_values op_values region_values b

pub labels_of_block_at : (b : BlockTree) → labels_of_block b ≡ (out-BlockTree b).label ∷ flat_map (λ ns. ns) (map labels_of_op (out-BlockTree b).ops)
labels_of_block_at b = fold_out-BlockTree (List ℕ) (List ℕ) (List ℕ) block_labels op_labels region_labels b

pub values_of_region_at : (r : RegionTree) → values_of_region r ≡ flat_map (λ ns. ns) (map values_of_block (out-RegionTree r).blocks)
values_of_region_at r = fold_out-RegionTree (List ℕ) (List ℕ) (List ℕ) block_values op_values region_values r

pub labels_of_region_at : (r : RegionTree) → labels_of_region r ≡ flat_map (λ ns. ns) (map labels_of_block (out-RegionTree r).blocks)
labels_of_region_at r = fold_out-RegionTree (List ℕ) (List ℕ) (List ℕ) block_labels op_labels region_labels r

pub ruleset numbers_laws = (common_steps, values_of_op_at, labels_of_op_at, values_of_block_at, labels_of_block_at, values_of_region_at, labels_of_region_at)
