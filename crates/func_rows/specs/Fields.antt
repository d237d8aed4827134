-- The fields of a memref as types.
use Rattle.std.specs.Prelude.{ℕ, List, ◌∷◌, ◌++◌, Option, map, option_map, replicate}
use Rattle.tree_model.specs.declared.type_tree.TypeTree.{TypeTree}
use Rattle.plain_tree.specs.Types.{PlainType, Ptr, plain_type}
use Rattle.conversion_model.specs.Types.{number_type}

abbrev pub field_types : ℕ → ℕ → List PlainType
field_types bits rank = Ptr ∷ Ptr ∷ number_type bits ∷ (replicate rank (number_type bits) ++ replicate rank (number_type bits))

abbrev pub plain_list : Option (List TypeTree) → Option (List PlainType)
plain_list o = option_map (map plain_type) o
