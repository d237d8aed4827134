-- The places of a function that its text counts or looks up, in the order of the text.
use Rattle.std.specs.Prelude.{ℕ, zero, suc, ◌+◌, List, [], ◌∷◌, ◌++◌, map, flat_map}
use Rattle.tree_model.specs.declared.type_tree.TypeTree.{TypeTree}
use Rattle.tree_model.specs.declared.op_tree.OpTree.{OpTree, fold-OpTree}
use Rattle.tree_model.specs.declared.op_tree.BlockTree.{BlockTree, fold-BlockTree}
use Rattle.tree_model.specs.declared.op_tree.RegionTree.{RegionTree, fold-RegionTree}
use Rattle.tree_model.specs.declared.op_tree.BlockTree.TheOpen.{OpTree-F, BlockTree-F, RegionTree-F}

-- a place. A value is its number in the tree, with its type.
pub data Place : Type 0 where
  -- an argument of a region's first block
  argument_at : (ℕ × TypeTree) → Place
  -- an argument of another block, or the only result of an operation
  single_at : (ℕ × TypeTree) → Place
  -- the results of an operation that has several
  group_at : List (ℕ × TypeTree) → Place
  -- a label that an operation names as a successor
  successor_at : ℕ → Place
  -- a block: its position among the blocks of its region, and its label
  block_at : ℕ → ℕ → Place

-- the results of an operation: none, one or several
abbrev pub result_places : List (ℕ × TypeTree) → List Place
result_places [] = []
result_places (v ∷ []) = single_at v ∷ []
result_places (v ∷ w ∷ vs) = group_at (v ∷ w ∷ vs) ∷ []

-- the arguments of the block at a position of its region
abbrev pub argument_places : ℕ → List (ℕ × TypeTree) → List Place
argument_places zero vs = map argument_at vs
argument_places (suc n) vs = map single_at vs

-- a block: its label, its arguments and the places of its operations
pub record BlockPlaces : Type 0 where
  pub label : ℕ
  pub arguments : List (ℕ × TypeTree)
  pub inner : List Place

-- the block at a position: its label with its arguments, and then its operations
abbrev pub places_at : ℕ → BlockPlaces → List Place
places_at n b = (block_at n b.label ∷ argument_places n b.arguments) ++ b.inner

-- the places of a region's blocks from the one at position n on
abbrev pub places_from : ℕ → List BlockPlaces → List Place
places_from n [] = []
places_from n (b ∷ bs) = places_at n b ++ places_from (n + 1) bs

-- a block, from the places of its operations
abbrev pub block_places : BlockTree-F BlockPlaces (List Place) (List Place) → BlockPlaces
block_places b = record { label = b.label; arguments = b.args; inner = flat_map (λ ps. ps) b.ops }

-- an operation: its results, its successors, and then its regions
abbrev pub op_places : OpTree-F BlockPlaces (List Place) (List Place) → List Place
op_places o = result_places o.results ++ map successor_at o.successors ++ flat_map (λ ps. ps) o.regions

-- a region: its blocks
abbrev pub region_places : RegionTree-F BlockPlaces (List Place) (List Place) → List Place
region_places r = places_from 0 r.blocks

-- the places of an operation and of all in it
abbrev pub places_of_op : OpTree → List Place
places_of_op = fold-OpTree BlockPlaces (List Place) (List Place) block_places op_places region_places

-- a block with the places of all in it
abbrev pub places_of_block : BlockTree → BlockPlaces
places_of_block = fold-BlockTree BlockPlaces (List Place) (List Place) block_places op_places region_places

-- the places of a region
abbrev pub places_of_region : RegionTree → List Place
places_of_region = fold-RegionTree BlockPlaces (List Place) (List Place) block_places op_places region_places
