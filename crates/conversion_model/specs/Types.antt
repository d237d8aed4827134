-- The type table: what each type becomes on the way to the llvm dialect, where an index has so many bits.
use Rattle.std.specs.Prelude.{ℕ, ◌==◌, List, [], ◌∷◌, ◌++◌, length, replicate, Option, Some, None, if◌then◌else◌}
-- The own types, which the table maps to themselves, are the value types of the llvm dialect.
pub use Rattle.plain_tree.specs.ValueTypes.{is_own, all_own}
use Rattle.plain_tree.specs.Types.{PlainType, Int, Index, Memref, Func, Ptr, Void, Struct, Array, LlvmFunc, types_in, types_of}

-- what stands for `index`, and for each number of a memref
abbrev pub number_type : ℕ → PlainType
number_type bits = Int bits

-- the fields of the struct that stands for a memref of this rank: allocated pointer, aligned pointer, offset, and where
-- it has dimensions the sizes and the strides
abbrev pub descriptor_fields : ℕ → ℕ → List PlainType
descriptor_fields bits rank =
    Ptr ∷ Ptr ∷ number_type bits ∷ (if rank == 0 then [] else Array rank (number_type bits) ∷ Array rank (number_type bits) ∷ [])

abbrev pub descriptor : ℕ → ℕ → PlainType
descriptor bits rank = Struct (types_in (descriptor_fields bits rank))

-- what a type becomes where it changes: `index` becomes an integer, a memref its descriptor
abbrev pub new_type : ℕ → PlainType → Option PlainType
new_type bits Index = Some (number_type bits)
new_type bits (Memref dims element) = Some (descriptor bits (length dims))
new_type bits _ = None

-- the table: own types stay, and no other type has a row but those that change
abbrev pub converted_type : ℕ → PlainType → Option PlainType
converted_type bits t = if is_own t then Some t else new_type bits t

abbrev pub or_same : PlainType → Option PlainType → PlainType
or_same t None = t
or_same t (Some u) = u

-- the type that a type becomes: itself where it has no row
abbrev pub becomes : ℕ → PlainType → PlainType
becomes bits t = or_same t (new_type bits t)

-- Signatures

abbrev pub one_list : {A : Type 0} → Option A → Option (List A)
one_list None = None
one_list (Some x) = Some (x ∷ [])

-- the parameters that a parameter of this type becomes: of a memref its fields one after another, pointer, pointer,
-- offset, each size, each stride; else its converted type, none where it has no row
abbrev pub parameters : ℕ → PlainType → Option (List PlainType)
parameters bits (Memref dims element) =
    Some (Ptr ∷ Ptr ∷ number_type bits ∷ (replicate (length dims) (number_type bits) ++ replicate (length dims) (number_type bits)))
parameters bits t = one_list (converted_type bits t)

abbrev pub both_lists : {A : Type 0} → Option (List A) → Option (List A) → Option (List A)
both_lists (Some xs) (Some ys) = Some (xs ++ ys)
both_lists _ _ = None

abbrev pub all_parameters : ℕ → List PlainType → Option (List PlainType)
all_parameters bits [] = Some []
all_parameters bits (t ∷ ts) = both_lists (parameters bits t) (all_parameters bits ts)

-- each type converted, none where one has no row
abbrev pub all_converted : ℕ → List PlainType → Option (List PlainType)
all_converted bits [] = Some []
all_converted bits (t ∷ ts) = both_lists (one_list (converted_type bits t)) (all_converted bits ts)

-- what results become: none `void`, one its converted type, several the struct of theirs
abbrev pub packed : List PlainType → PlainType
packed [] = Void
packed (t ∷ []) = t
packed ts = Struct (types_in ts)

abbrev pub signature_of : Option (List PlainType) → Option (List PlainType) → Option PlainType
signature_of (Some params) (Some outputs) = Some (LlvmFunc (packed outputs) (types_in params))
signature_of _ _ = None

-- the type of the llvm function that stands for one of this type, none where it is no function type of value types
abbrev pub signature : ℕ → PlainType → Option PlainType
signature bits (Func inputs outputs) = signature_of (all_parameters bits (types_of inputs)) (all_converted bits (types_of outputs))
signature bits _ = None
