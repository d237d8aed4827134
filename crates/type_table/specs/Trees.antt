-- Types of the table as trees.
use Rattle.std.specs.Prelude.{ℕ, List, Option, Some, None, map}
use Rattle.tree_model.specs.declared.type_tree.TypeTree.{TypeTree}
use Rattle.plain_tree.specs.Types.{PlainType, Array, type_tree}
use Rattle.conversion_model.specs.Types.{number_type}

-- the tree of a type, where there is one
abbrev pub tree_or_none : Option PlainType → Option TypeTree
tree_or_none None = None
tree_or_none (Some t) = Some (type_tree t)

abbrev pub trees_or_none : Option (List PlainType) → Option (List TypeTree)
trees_or_none None = None
trees_or_none (Some ts) = Some (map type_tree ts)

-- the tree of the array of sizes, or of strides
abbrev pub numbers_tree : ℕ → ℕ → TypeTree
numbers_tree bits rank = type_tree (Array rank (number_type bits))
