-- What types tell: widths, ranks, and the value that was never set. An `index` has so many bits as a run says.
use Rattle.std.specs.Prelude.{ℕ, zero, suc, ◌==◌, nat_le, Bool, true, false, ◌&&◌, List, [], ◌∷◌, length, map, replicate, Option, Some, None, if◌then◌else◌}
use Rattle.std.specs.List.{list_all}
use Rattle.tree_model.specs.declared.type_tree.Dim.{Dim}
use Rattle.tree_model.specs.declared.type_tree.Dim.TheVariants.{Fixed, Dynamic}
use Rattle.tree_model.specs.declared.type_tree.TypeTree.{TypeTree, out-TypeTree}
use Rattle.tree_model.specs.declared.type_tree.TypeTree as type
use Rattle.tree_model.specs.declared.type_tree.TypeTree.TheOpen.{TypeTree-F}
use Rattle.tree_model.specs.declared.type_tree.TypeTree.TheFolds.{fold-TypeTree}
use Rattle.operation_model.specs.Values.{Value, Unset, together}

-- the widths of integers: 1 to 64 bits
abbrev pub width : ℕ → Option ℕ
width w = if nat_le 1 w && nat_le w 64 then Some w else None

abbrev pub width_at : ℕ → TypeTree-F TypeTree → Option ℕ
width_at bits (TypeTree-F.Int w) = width w
width_at bits TypeTree-F.Index = Some bits
width_at bits _ = None

-- the width of an integer type of 1 to 64 bits, or of `index`
abbrev pub width_of : ℕ → TypeTree → Option ℕ
width_of bits t = width_at bits (out-TypeTree t)

-- the widths of types that are all integers or `index`
abbrev pub and_width : Option ℕ → Option (List ℕ) → Option (List ℕ)
and_width (Some w) (Some ws) = Some (w ∷ ws)
and_width _ _ = None

abbrev pub widths_of : ℕ → List TypeTree → Option (List ℕ)
widths_of bits [] = Some []
widths_of bits (t ∷ ts) = and_width (width_of bits t) (widths_of bits ts)

-- a memref: its sizes where they are fixed, and the type of its elements
pub record Memref : Type 0 where
  pub sizes : List (Option ℕ)
  pub element : TypeTree

abbrev pub fixed_size : Dim → Option ℕ
fixed_size (Fixed n) = Some n
fixed_size Dynamic = None

abbrev pub memref_at : TypeTree-F TypeTree → Option Memref
memref_at (TypeTree-F.Memref dims element) = Some (record { sizes = map fixed_size dims; element = element })
memref_at _ = None

abbrev pub memref_of : TypeTree → Option Memref
memref_of t = memref_at (out-TypeTree t)

abbrev pub rank_of : Option Memref → Option ℕ
rank_of None = None
rank_of (Some m) = Some (length m.sizes)

-- how values of this type are handed over: a memref of a rank by its fields, another one as it is
abbrev pub shape_of : TypeTree → Option ℕ
shape_of t = rank_of (memref_of t)

abbrev pub unset_at : TypeTree-F Value → Value
unset_at (TypeTree-F.Struct fields) = together fields
unset_at (TypeTree-F.Array n element) = together (replicate n element)
unset_at _ = Unset

-- a value of the type that is unset in every part
abbrev pub unset_of : TypeTree → Value
unset_of = fold-TypeTree Value unset_at

-- The type table: what each type becomes on the way to the llvm dialect.

abbrev pub arrays : ℕ → ℕ → List TypeTree
arrays bits zero = []
arrays bits (suc rank) = type.Array (suc rank) (type.Int bits) ∷ type.Array (suc rank) (type.Int bits) ∷ []

-- the type of a descriptor of this rank
abbrev pub descriptor_type : ℕ → ℕ → TypeTree
descriptor_type bits rank = type.Struct (type.Ptr ∷ type.Ptr ∷ type.Int bits ∷ arrays bits rank)

abbrev pub is_llvm_at : TypeTree-F Bool → Bool
is_llvm_at (TypeTree-F.Int width) = true
is_llvm_at TypeTree-F.Ptr = true
is_llvm_at (TypeTree-F.Struct fields) = list_all (λ field. field) fields
is_llvm_at (TypeTree-F.Array n element) = element
is_llvm_at _ = false

-- the value types of the llvm dialect: integers, the pointer, and structs and arrays of such
abbrev pub is_llvm : TypeTree → Bool
is_llvm = fold-TypeTree Bool is_llvm_at

abbrev pub changed_at : ℕ → TypeTree-F TypeTree → Option TypeTree
changed_at bits TypeTree-F.Index = Some (type.Int bits)
changed_at bits (TypeTree-F.Memref dims element) = Some (descriptor_type bits (length dims))
changed_at bits _ = None

-- value types of the llvm dialect stay, `index` becomes an integer and a memref its descriptor
abbrev pub converted : ℕ → TypeTree → Option TypeTree
converted bits t = if is_llvm t then Some t else changed_at bits (out-TypeTree t)

-- whether two types are the same, one level at a time: the first one as what it says of any second one
abbrev pub all_same : List (TypeTree → Bool) → List TypeTree → Bool
all_same [] [] = true
all_same (f ∷ fs) (t ∷ ts) = f t && all_same fs ts
all_same _ _ = false

abbrev pub same_dim : Dim → Dim → Bool
same_dim (Fixed m) (Fixed n) = m == n
same_dim Dynamic Dynamic = true
same_dim _ _ = false

abbrev pub same_dims : List Dim → List Dim → Bool
same_dims [] [] = true
same_dims (d ∷ ds) (e ∷ es) = same_dim d e && same_dims ds es
same_dims _ _ = false

abbrev pub same_at : TypeTree-F (TypeTree → Bool) → TypeTree-F TypeTree → Bool
same_at (TypeTree-F.Int m) (TypeTree-F.Int n) = m == n
same_at TypeTree-F.Index TypeTree-F.Index = true
same_at (TypeTree-F.Memref ds f) (TypeTree-F.Memref es t) = same_dims ds es && f t
same_at (TypeTree-F.Func fs gs) (TypeTree-F.Func ts us) = all_same fs ts && all_same gs us
same_at TypeTree-F.Ptr TypeTree-F.Ptr = true
same_at TypeTree-F.Void TypeTree-F.Void = true
same_at (TypeTree-F.Struct fs) (TypeTree-F.Struct ts) = all_same fs ts
same_at (TypeTree-F.Array m f) (TypeTree-F.Array n t) = (m == n) && f t
same_at (TypeTree-F.LlvmFunc f fs) (TypeTree-F.LlvmFunc t ts) = f t && all_same fs ts
same_at _ _ = false

abbrev pub same_type : TypeTree → TypeTree → Bool
same_type = fold-TypeTree (TypeTree → Bool) (λ level t. same_at level (out-TypeTree t))

abbrev pub same_converted : Option TypeTree → Option TypeTree → Bool
same_converted (Some t) (Some u) = same_type t u
same_converted _ _ = false

-- whether two types become the same one
abbrev pub become_same : ℕ → TypeTree → TypeTree → Bool
become_same bits t u = same_converted (converted bits t) (converted bits u)
