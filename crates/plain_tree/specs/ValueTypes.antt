-- Which types values may have.
use Rattle.std.specs.Prelude.{Bool, true, false, ◌&&◌}
use Rattle.plain_tree.specs.Types.{PlainType, PlainTypes, Int, Index, Memref, Ptr, Struct, Array, end_of_types, more_types}

abbrev mutual
  -- whether a type is a value type of the llvm dialect: an integer, the pointer, a struct or an array of such
  pub is_own : PlainType → Bool
  is_own (Int width) = true
  is_own Ptr = true
  is_own (Struct fields) = all_own fields
  is_own (Array n element) = is_own element
  is_own _ = false

  pub all_own : PlainTypes → Bool
  all_own end_of_types = true
  all_own (more_types t ts) = is_own t && all_own ts

-- whether a type is a value type: one of the llvm dialect, `index` or a memref
abbrev pub is_value : PlainType → Bool
is_value Index = true
is_value (Memref dims element) = true
is_value t = is_own t
