-- What a table of the types of values stands for.
use Rattle.std.specs.Prelude.{ℕ, ◌==◌, nat_eq, [], ◌∷◌, Option, Some, None, is_some, option_map, if◌then◌else◌}
use Rattle.std.specs.HashMap.{get}
use Rattle.tree_model.specs.declared.type_tree.TypeTree.{TypeTree}
use Rattle.tree_model.specs.declared.op_tree.BlockTree.{BlockTree, fold-BlockTree}
use Rattle.tree_model.specs.declared.op_tree.RegionTree.{RegionTree, fold-RegionTree}
use Rattle.form_model.specs.Decoding.{Values, values_of_block, values_of_op, values_of_region}
use Rattle.decode_code.specs.declared.value_types.ValueTypes.{ValueTypes}

-- the type of each number
abbrev pub types_in : ValueTypes → ℕ → Option TypeTree
types_in t = λ n. option_map (λ r. r.now) (get nat_eq t.by_number n)

abbrev pub at_start : ℕ → Option TypeTree
at_start = λ n. None

-- a number has what it got first
abbrev pub with_first : (ℕ → Option TypeTree) → ℕ → TypeTree → ℕ → Option TypeTree
with_first f key t q = if is_some (f key) then f q else (if key == q then Some t else f q)

-- values in order
abbrev pub with_types : (ℕ → Option TypeTree) → Values → ℕ → Option TypeTree
with_types f [] = f
with_types f (v ∷ vs) = with_types (with_first f v.0 v.1) vs

-- all values that are defined in a block, and in a region
unfoldable pub values_in_block : BlockTree → Values
values_in_block = fold-BlockTree Values Values Values values_of_block values_of_op values_of_region

unfoldable pub values_in_region : RegionTree → Values
values_in_region = fold-RegionTree Values Values Values values_of_block values_of_op values_of_region
