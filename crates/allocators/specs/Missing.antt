-- The declarations that are missing.
use Rattle.std.specs.Prelude.{ℕ, Bool, not, ◌&&◌, List, [], ◌∷◌, ◌++◌, if◌then◌else◌, codes}
use Rattle.plain_tree.specs.Types.{PlainType, Int, Ptr, Void, LlvmFunc, types_in}
use Rattle.plain_tree.specs.Ops.{Op}
use Rattle.pattern_model.specs.ModuleStep.{declaration, is_called, is_there}

-- called, and not there
abbrev pub is_wanted : List ℕ → List Op → Bool
is_wanted name funcs = is_called name funcs && not (is_there name funcs)

abbrev pub missing_one : List ℕ → PlainType → List Op → List Op
missing_one name t funcs = if is_wanted name funcs then declaration name t ∷ [] else []

abbrev pub malloc_type : PlainType
malloc_type = LlvmFunc Ptr (types_in (Int 64 ∷ []))

abbrev pub free_type : PlainType
free_type = LlvmFunc Void (types_in (Ptr ∷ []))

abbrev pub aligned_type : PlainType
aligned_type = LlvmFunc Ptr (types_in (Int 64 ∷ Int 64 ∷ []))

-- malloc, free, aligned_alloc, in this order
abbrev pub missing_all : List Op → List Op
missing_all funcs = (missing_one (codes "malloc") malloc_type funcs ++ missing_one (codes "free") free_type funcs) ++ missing_one (codes "aligned_alloc") aligned_type funcs
