-- The numbers of values and the labels that stand in a tree, each as often as it stands there, in the
-- order of the text.
use Rattle.std.specs.Prelude.{ℕ, List, ◌∷◌, ◌++◌, map, flat_map}
use Rattle.tree_model.specs.declared.type_tree.TypeTree.{TypeTree}
use Rattle.tree_model.specs.declared.op_tree.OpTree.{OpTree, fold-OpTree}
use Rattle.tree_model.specs.declared.op_tree.BlockTree.{BlockTree, fold-BlockTree}
use Rattle.tree_model.specs.declared.op_tree.RegionTree.{RegionTree, fold-RegionTree}
use Rattle.tree_model.specs.declared.op_tree.BlockTree.TheOpen.{OpTree-F, BlockTree-F, RegionTree-F}

-- the numbers of values that are defined at one place
abbrev pub numbers_of_values : List (ℕ × TypeTree) → List ℕ
numbers_of_values values = map (λ v. v.0) values

-- values in a block: those of its arguments, then those of its operations
abbrev pub block_values : BlockTree-F (List ℕ) (List ℕ) (List ℕ) → List ℕ
block_values b = numbers_of_values b.args ++ flat_map (λ ns. ns) b.ops

-- values in an operation: its results, its operands, then those of its regions
abbrev pub op_values : OpTree-F (List ℕ) (List ℕ) (List ℕ) → List ℕ
op_values o = numbers_of_values o.results ++ o.operands ++ flat_map (λ ns. ns) o.regions

-- values in a region: those of its blocks
abbrev pub region_values : RegionTree-F (List ℕ) (List ℕ) (List ℕ) → List ℕ
region_values r = flat_map (λ ns. ns) r.blocks

abbrev pub values_of_op : OpTree → List ℕ
values_of_op = fold-OpTree (List ℕ) (List ℕ) (List ℕ) block_values op_values region_values

abbrev pub values_of_block : BlockTree → List ℕ
values_of_block = fold-BlockTree (List ℕ) (List ℕ) (List ℕ) block_values op_values region_values

abbrev pub values_of_region : RegionTree → List ℕ
values_of_region = fold-RegionTree (List ℕ) (List ℕ) (List ℕ) block_values op_values region_values

-- labels in a block: its own, then those of its operations
abbrev pub block_labels : BlockTree-F (List ℕ) (List ℕ) (List ℕ) → List ℕ
block_labels b = b.label ∷ flat_map (λ ns. ns) b.ops

-- labels in an operation: its successors, then those of its regions
abbrev pub op_labels : OpTree-F (List ℕ) (List ℕ) (List ℕ) → List ℕ
op_labels o = o.successors ++ flat_map (λ ns. ns) o.regions

-- labels in a region: those of its blocks
abbrev pub region_labels : RegionTree-F (List ℕ) (List ℕ) (List ℕ) → List ℕ
region_labels r = flat_map (λ ns. ns) r.blocks

abbrev pub labels_of_op : OpTree → List ℕ
labels_of_op = fold-OpTree (List ℕ) (List ℕ) (List ℕ) block_labels op_labels region_labels

abbrev pub labels_of_block : BlockTree → List ℕ
labels_of_block = fold-BlockTree (List ℕ) (List ℕ) (List ℕ) block_labels op_labels region_labels

abbrev pub labels_of_region : RegionTree → List ℕ
labels_of_region = fold-RegionTree (List ℕ) (List ℕ) (List ℕ) block_labels op_labels region_labels
