-- A tree with 0 in place of each number of a value and each label.
use Rattle.std.specs.Prelude.{ℕ, List, map}
use Rattle.tree_model.specs.declared.type_tree.TypeTree.{TypeTree}
use Rattle.tree_model.specs.declared.op_tree.OpTree.{OpTree, roll-OpTree, fold-OpTree}
use Rattle.tree_model.specs.declared.op_tree.BlockTree.{BlockTree, roll-BlockTree, fold-BlockTree}
use Rattle.tree_model.specs.declared.op_tree.RegionTree.{RegionTree, roll-RegionTree, fold-RegionTree}
use Rattle.tree_model.specs.declared.op_tree.BlockTree.TheOpen.{OpTree-F, BlockTree-F, RegionTree-F}

-- 0 for each number
abbrev pub zeros : List ℕ → List ℕ
zeros numbers = map (λ n. 0) numbers

-- values: their types stay
abbrev pub types_alone : List (ℕ × TypeTree) → List (ℕ × TypeTree)
types_alone values = map (λ v. (0, v.1)) values

-- a block: its operations stay
abbrev pub bare_block : BlockTree-F BlockTree OpTree RegionTree → BlockTree
bare_block b = roll-BlockTree (record { label = 0; args = types_alone b.args; ops = b.ops })

-- an operation: its name, its dictionaries and its regions stay
abbrev pub bare_op : OpTree-F BlockTree OpTree RegionTree → OpTree
bare_op o = roll-OpTree (record {
  name = o.name;
  results = types_alone o.results;
  operands = zeros o.operands;
  props = o.props;
  attrs = o.attrs;
  regions = o.regions;
  successors = zeros o.successors;
})

-- a region: its blocks stay
abbrev pub bare_region : RegionTree-F BlockTree OpTree RegionTree → RegionTree
bare_region r = roll-RegionTree (record { blocks = r.blocks })

-- an operation without numbers, and so all in it
abbrev pub op_without_numbers : OpTree → OpTree
op_without_numbers = fold-OpTree BlockTree OpTree RegionTree bare_block bare_op bare_region

abbrev pub block_without_numbers : BlockTree → BlockTree
block_without_numbers = fold-BlockTree BlockTree OpTree RegionTree bare_block bare_op bare_region

abbrev pub region_without_numbers : RegionTree → RegionTree
region_without_numbers = fold-RegionTree BlockTree OpTree RegionTree bare_block bare_op bare_region
