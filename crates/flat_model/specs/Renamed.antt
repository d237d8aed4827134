-- A tree with other numbers.
use Rattle.std.specs.Prelude.{ℕ, List, map}
use Rattle.key_model.specs.declared.handle.Handle.{Handle}
use Rattle.key_model.specs.declared.key.Key.{Key}
use Rattle.tree_model.specs.declared.type_tree.TypeTree.{TypeTree}
use Rattle.tree_model.specs.declared.op_tree.OpTree.{OpTree, roll-OpTree}
use Rattle.tree_model.specs.declared.op_tree.BlockTree.{BlockTree, roll-BlockTree}
use Rattle.tree_model.specs.declared.op_tree.RegionTree.{RegionTree, roll-RegionTree}
use Rattle.tree_model.specs.declared.op_tree.BlockTree.TheOpen.{OpTree-F, BlockTree-F, RegionTree-F}
use Rattle.tree_model.specs.declared.op_tree.BlockTree.TheFolds.{fold-OpTree, fold-BlockTree, fold-RegionTree}
use Rattle.tree_model.specs.declared.op_tree.FuncTree.{FuncTree}
use Rattle.tree_shape.specs.Same.{Same}
use Rattle.flat_model.specs.Flat.{Flat}
use Rattle.flat_model.specs.Shows.{FuncShows}

abbrev pub values_renamed : (ℕ → ℕ) → List (ℕ × TypeTree) → List (ℕ × TypeTree)
values_renamed value values = map (λ v. (value v.0, v.1)) values

abbrev pub op_step : (ℕ → ℕ) → (ℕ → ℕ) → OpTree-F BlockTree OpTree RegionTree → OpTree
op_step value label o = roll-OpTree (record {
  name = o.name;
  results = values_renamed value o.results;
  operands = map value o.operands;
  props = o.props;
  attrs = o.attrs;
  regions = o.regions;
  successors = map label o.successors;
})

abbrev pub block_step : (ℕ → ℕ) → (ℕ → ℕ) → BlockTree-F BlockTree OpTree RegionTree → BlockTree
block_step value label b = roll-BlockTree (record { label = label b.label; args = values_renamed value b.args; ops = b.ops })

abbrev pub region_step : RegionTree-F BlockTree OpTree RegionTree → RegionTree
region_step r = roll-RegionTree (record { blocks = r.blocks })

-- the operation with these numbers for its values and its labels
abbrev pub op_renamed : (ℕ → ℕ) → (ℕ → ℕ) → OpTree → OpTree
op_renamed value label = fold-OpTree BlockTree OpTree RegionTree (block_step value label) (op_step value label) region_step

abbrev pub block_renamed : (ℕ → ℕ) → (ℕ → ℕ) → BlockTree → BlockTree
block_renamed value label = fold-BlockTree BlockTree OpTree RegionTree (block_step value label) (op_step value label) region_step

abbrev pub region_renamed : (ℕ → ℕ) → (ℕ → ℕ) → RegionTree → RegionTree
region_renamed value label = fold-RegionTree BlockTree OpTree RegionTree (block_step value label) (op_step value label) region_step

-- the function shows a tree that is this one but for its numbers
abbrev pub ShowsSame : (Handle → Key → Type 0) → Flat → FuncTree → Type 0
ShowsSame holds f tree = (shown : FuncTree) × (Same tree shown × FuncShows holds f shown)
