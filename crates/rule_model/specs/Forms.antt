-- What types and properties are, one by one.
use Rattle.std.specs.Prelude.{ℕ, zero, suc, ◌+◌, ◌==◌, nat_lt, Bool, true, false, not, ◌&&◌, ◌||◌, List, [], ◌∷◌, length, Option, Some, None, ℤ, pos, negsuc, codes, if◌then◌else◌}
use Rattle.std.specs.List.{list_any, list_all}
use Rattle.std.specs.Str.{bytes_eq}
use Rattle.tree_model.specs.declared.type_tree.Dim.{Dim}
use Rattle.tree_model.specs.declared.type_tree.Dim.TheVariants.{Fixed, Dynamic}
use Rattle.plain_tree.specs.Types.{PlainType, Int, Index, Memref, Func, Ptr, Struct, Array, LlvmFunc, types_of, same_type}
use Rattle.plain_tree.specs.Attrs.{Entries, PlainAttr, PlainAttrs, Unit, Number, Text, Attrs, Dict, OfType, Symbol, Numbers, Dialect, end_of_attrs, more_attrs, entry}
use Rattle.rule_model.specs.Words.{if_some}

-- Types

-- an integer or `index`
abbrev pub is_number : PlainType → Bool
is_number (Int width) = true
is_number Index = true
is_number _ = false

abbrev pub is_integer : PlainType → Bool
is_integer (Int width) = true
is_integer _ = false

abbrev pub is_index : PlainType → Bool
is_index Index = true
is_index _ = false

abbrev pub is_bit : PlainType → Bool
is_bit t = same_type t (Int 1)

abbrev pub is_pointer : PlainType → Bool
is_pointer Ptr = true
is_pointer _ = false

-- the dimensions of a memref
abbrev pub dims_of : PlainType → Option (List Dim)
dims_of (Memref dims element) = Some dims
dims_of _ = None

abbrev pub is_memref : PlainType → Bool
is_memref (Memref dims element) = true
is_memref _ = false

abbrev pub dynamic_count : List Dim → ℕ
dynamic_count [] = 0
dynamic_count (Fixed n ∷ ds) = dynamic_count ds
dynamic_count (Dynamic ∷ ds) = dynamic_count ds + 1

-- the same types in order
abbrev pub same_all : List PlainType → List PlainType → Bool
same_all [] [] = true
same_all (t ∷ ts) (u ∷ us) = same_type t u && same_all ts us
same_all _ _ = false

-- whether a memref of dimensions ds may be taken for one of es: as many, each equal or one of the two dynamic
abbrev pub may_be_dim : Dim → Dim → Bool
may_be_dim (Fixed m) (Fixed n) = m == n
may_be_dim _ _ = true

abbrev pub may_be_dims : List Dim → List Dim → Bool
may_be_dims [] [] = true
may_be_dims (d ∷ ds) (e ∷ es) = may_be_dim d e && may_be_dims ds es
may_be_dims _ _ = false

abbrev pub at_place : {A : Type 0} → ℕ → List A → Option A
at_place n [] = None
at_place zero (x ∷ xs) = Some x
at_place (suc n) (x ∷ xs) = at_place n xs

-- the field or place of this number in a type
abbrev pub part_of : ℕ → PlainType → Option PlainType
part_of n (Struct fields) = at_place n (types_of fields)
part_of n (Array length element) = if nat_lt n length then Some element else None
part_of n _ = None

-- the part that is found at a path
abbrev pub part_at : List ℕ → PlainType → Option PlainType
part_at [] t = Some t
part_at (n ∷ path) t = if_some (part_of n t) (part_at path)

-- Properties

abbrev pub is_text : PlainAttr → Bool
is_text (Text text) = true
is_text _ = false

abbrev pub is_symbol : PlainAttr → Bool
is_symbol (Symbol name) = true
is_symbol _ = false

abbrev pub is_unit : PlainAttr → Bool
is_unit Unit = true
is_unit _ = false

-- `true` or `false`
abbrev pub is_truth : PlainAttr → Bool
is_truth (Number value t) = is_bit t
is_truth _ = false

abbrev pub are_dicts : PlainAttrs → Bool
are_dicts end_of_attrs = true
are_dicts (more_attrs (Dict entries) rest) = are_dicts rest
are_dicts _ = false

-- a list of dictionaries
abbrev pub is_dict_list : PlainAttr → Bool
is_dict_list (Attrs attrs) = are_dicts attrs
is_dict_list _ = false

abbrev pub is_func_type : PlainAttr → Bool
is_func_type (OfType (Func inputs outputs)) = true
is_func_type _ = false

abbrev pub is_llvm_func_type : PlainAttr → Bool
is_llvm_func_type (OfType (LlvmFunc output inputs)) = true
is_llvm_func_type _ = false

-- `iN`
abbrev pub is_integer_type : PlainAttr → Bool
is_integer_type (OfType t) = is_integer t
is_integer_type _ = false

-- an integer of this type
abbrev pub is_integer_of : PlainType → PlainAttr → Bool
is_integer_of t (Number value u) = same_type u t
is_integer_of t _ = false

-- an `i64` integer from 0 to 9
abbrev pub is_predicate : PlainAttr → Bool
is_predicate (Number (pos n) t) = nat_lt n 10 && same_type t (Int 64)
is_predicate _ = false

abbrev pub alignments : List ℕ
alignments = 1 ∷ 2 ∷ 4 ∷ 8 ∷ 16 ∷ 32 ∷ 64 ∷ 128 ∷ 256 ∷ 512 ∷ 1024 ∷ 2048 ∷ 4096 ∷ []

-- an integer that is a power of two up to 4096
abbrev pub is_alignment : PlainAttr → Bool
is_alignment (Number (pos n) t) = list_any (λ a. a == n) alignments
is_alignment _ = false

abbrev pub is_flag : List ℕ → Bool
is_flag word = bytes_eq word (codes "none") || (bytes_eq word (codes "nsw") || bytes_eq word (codes "nuw"))

abbrev pub are_flags : List (List ℕ) → Bool
are_flags [] = false
are_flags words = list_all is_flag words

-- flags under this name: one word or more
abbrev pub is_flags : List ℕ → PlainAttr → Bool
is_flags dialect (Dialect name words) = bytes_eq name dialect && are_flags words
is_flags dialect _ = false

-- one word
abbrev pub is_linkage : PlainAttr → Bool
is_linkage (Dialect name (word ∷ [])) = bytes_eq name (codes "llvm.linkage")
is_linkage _ = false

abbrev pub first_and_two : List ℤ → Option (ℕ × ℕ)
first_and_two (pos c ∷ pos a ∷ pos b ∷ []) = if c == 1 then Some (a, b) else None
first_and_two _ = None

abbrev pub two_counts : PlainAttr → Option (ℕ × ℕ)
two_counts (Numbers width values) = if width == 32 then first_and_two values else None
two_counts _ = None

-- how many operands each successor of a branch with a condition takes: `array<i32: 1, a, b>`
abbrev pub segments : Entries → Option (ℕ × ℕ)
segments props = if_some (entry (codes "operandSegmentSizes") props) two_counts

abbrev pub is_some_of : {A : Type 0} → Option A → Bool
is_some_of None = false
is_some_of (Some a) = true

abbrev pub count_and_zero : ℕ → List ℤ → Bool
count_and_zero n (pos d ∷ pos z ∷ []) = (d == n) && (z == 0)
count_and_zero n _ = false

-- `array<i32: n, 0>`
abbrev pub is_size_count : ℕ → PlainAttr → Bool
is_size_count n (Numbers width values) = (width == 32) && count_and_zero n values
is_size_count n _ = false

abbrev pub same_number : ℤ → ℤ → Bool
same_number (pos m) (pos n) = m == n
same_number (negsuc m) (negsuc n) = m == n
same_number _ _ = false

abbrev pub are_distinct : List ℤ → Bool
are_distinct [] = true
are_distinct (z ∷ zs) = not (list_any (same_number z) zs) && are_distinct zs

abbrev pub distinct_count : PlainAttr → Option ℕ
distinct_count (Numbers width values) = if (width == 64) && are_distinct values then Some (length values) else None
distinct_count _ = None

-- how many cases a switch has: distinct numbers `array<i64: ..>`
abbrev pub case_count : Entries → Option ℕ
case_count props = if_some (entry (codes "cases") props) distinct_count

abbrev pub and_natural : ℤ → Option (List ℕ) → Option (List ℕ)
and_natural (pos n) (Some ns) = Some (n ∷ ns)
and_natural _ _ = None

-- numbers of which none is negative
abbrev pub naturals : List ℤ → Option (List ℕ)
naturals [] = Some []
naturals (z ∷ zs) = and_natural z (naturals zs)

abbrev pub path_in : List ℤ → Option (List ℕ)
path_in [] = None
path_in zs = naturals zs

abbrev pub path_of : PlainAttr → Option (List ℕ)
path_of (Numbers width values) = if width == 64 then path_in values else None
path_of _ = None

-- the part of a type at a path of one number or more, `array<i64: ..>`
abbrev pub part_by : PlainType → PlainAttr → Option PlainType
part_by t a = if_some (path_of a) (λ path. part_at path t)

abbrev pub part_in : Entries → List PlainType → Option PlainType
part_in props [] = None
part_in props (t ∷ ts) = if_some (entry (codes "position") props) (part_by t)

abbrev pub finds_part : List PlainType → PlainAttr → Bool
finds_part [] a = true
finds_part (t ∷ ts) a = is_some_of (part_by t a)

abbrev pub least_of_32 : List ℤ → Bool
least_of_32 (negsuc n ∷ []) = n == 2147483647
least_of_32 _ = false

-- `array<i32: -2147483648>`
abbrev pub is_one_index : PlainAttr → Bool
is_one_index (Numbers width values) = (width == 32) && least_of_32 values
is_one_index _ = false
