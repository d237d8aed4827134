-- The innermost region of levels, and what is around it.
use Rattle.std.specs.Prelude.{ℕ, List, [], ◌∷◌}
use Rattle.tree_model.specs.declared.type_tree.TypeTree.{TypeTree}
use Rattle.tree_model.specs.declared.op_tree.OpTree.{OpTree}
use Rattle.tree_model.specs.declared.op_tree.BlockTree.{BlockTree}
use Rattle.tree_model.specs.declared.op_tree.RegionTree.{RegionTree}
use Rattle.term_table.specs.Terms.{Term}
use Rattle.event_trees.specs.Levels.{Level, Levels, empty}

-- of the innermost region, and of those around it
abbrev pub first : Levels → Level
first [] = empty
first (l ∷ ls) = l

abbrev pub below : Levels → Levels
below [] = []
below (l ∷ ls) = ls

-- what there is of the innermost region
abbrev pub regions_in : Levels → List RegionTree
regions_in k = (first k).parts.regions

abbrev pub signature_in : Levels → Term
signature_in k = (first k).parts.signature

abbrev pub args_in : Levels → List (ℕ × TypeTree)
args_in k = (first k).args

abbrev pub ops_in : Levels → List OpTree
ops_in k = (first k).ops

abbrev pub blocks_in : Levels → List BlockTree
blocks_in k = (first k).blocks
