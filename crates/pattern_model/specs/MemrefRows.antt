-- The patterns of memref_lowering: memrefs as their descriptors. All numbers have the type that stands for `index`.
use Rattle.std.specs.Prelude.{ℕ, ◌+◌, ◌==◌, nat_le, List, [], ◌∷◌, length, Option, Some, None, ℤ, pos, negsuc, ◌+ℤ◌, if◌then◌else◌, codes}
use Rattle.tree_model.specs.declared.type_tree.Dim.{Dim}
use Rattle.tree_model.specs.declared.type_tree.Dim.TheVariants.{Fixed, Dynamic}
use Rattle.plain_tree.specs.Types.{PlainType, Int, Memref, Ptr}
use Rattle.plain_tree.specs.Attrs.{Entries, PlainAttr, Number, Numbers, Symbol, OfType, entry}
use Rattle.conversion_model.specs.declared.templates.Source.{Source}
use Rattle.conversion_model.specs.declared.templates.Source.TheVariants.{Operand}
use Rattle.conversion_model.specs.Types.{becomes, descriptor, number_type}
use Rattle.conversion_model.specs.Templates.{Template}
use Rattle.conversion_model.specs.Targets.{Shape}
use Rattle.conversion_model.specs.Rows.{Pattern}
use Rattle.pattern_model.specs.Drafts.{Draft, value, effect, gives, draft, predicate, constant_value, is_plain, when}
use Rattle.pattern_model.specs.ArithRows.{lowers}

-- Operations

abbrev pub position : List ℤ → Entries
position path = (codes "position", Numbers 64 path) ∷ []

-- m[path]
abbrev pub extract : Source → List ℤ → PlainType → (Source → Draft) → Draft
extract m path t next = value (codes "llvm.extractvalue") (m ∷ []) (position path) t next

-- m with v at that place
abbrev pub insert : Source → Source → List ℤ → PlainType → (Source → Draft) → Draft
insert m v path t next = value (codes "llvm.insertvalue") (m ∷ v ∷ []) (position path) t next

abbrev pub undef : PlainType → (Source → Draft) → Draft
undef t next = value (codes "llvm.mlir.undef") [] [] t next

abbrev pub constant : ℤ → PlainType → (Source → Draft) → Draft
constant n t next = value (codes "llvm.mlir.constant") [] (constant_value t n) t next

abbrev pub two : List ℕ → Source → Source → PlainType → (Source → Draft) → Draft
two name x y t next = value name (x ∷ y ∷ []) [] t next

-- x at 64 bits, else x extended to `i64` by an operation of that name
abbrev pub widened : List ℕ → ℕ → Source → (Source → Draft) → Draft
widened name bits x next = if bits == 64 then next x else value name (x ∷ []) [] (Int 64) next

abbrev pub callee : List ℕ → Entries
callee name = (codes "callee", Symbol name) ∷ []

-- Allocation

-- The size of each dimension, in order: a constant where it is fixed, else the next operand, from the k-th on.
abbrev pub sizes_of : ℕ → List Dim → ℕ → (List Source → Draft) → Draft
sizes_of bits [] k next = next []
sizes_of bits (Fixed n ∷ dims) k next = constant (pos n) (number_type bits) λ s. sizes_of bits dims k λ ss. next (s ∷ ss)
sizes_of bits (Dynamic ∷ dims) k next = sizes_of bits dims (k + 1) λ ss. next (Operand k ∷ ss)

abbrev pub front : Source → List Source → Source
front other [] = other
front other (s ∷ ss) = s

-- The strides, from the back: the last is o, each other one the next stride times the next size.
abbrev pub strides_of : ℕ → Source → List Source → (List Source → Draft) → Draft
strides_of bits o [] next = next []
strides_of bits o (s ∷ []) next = next (o ∷ [])
strides_of bits o (s ∷ r ∷ sizes) next = strides_of bits o (r ∷ sizes) λ ts. two (codes "llvm.mul") (front o ts) r (number_type bits) λ t. next (t ∷ ts)

-- the number of elements: the first stride times the first size, or o where there is no dimension
abbrev pub elements_of : ℕ → Source → List Source → List Source → (Source → Draft) → Draft
elements_of bits o (t ∷ ts) (s ∷ ss) next = two (codes "llvm.mul") t s (number_type bits) next
elements_of bits o _ _ next = next o

-- the bytes of an integer: the least of 1, 2, 4, 8 that holds its bits
abbrev pub bytes_of : PlainType → ℕ
bytes_of (Int n) = if nat_le n 8 then 1 else if nat_le n 16 then 2 else if nat_le n 32 then 4 else 8
bytes_of _ = 8

-- these values at k, 0; k, 1; .. from j on
abbrev pub inserted : ℕ → PlainType → ℕ → List Source → Source → (Source → Draft) → Draft
inserted k t j [] m next = next m
inserted k t j (s ∷ ss) m next = insert m s (pos k ∷ pos j ∷ []) t λ u. inserted k t (j + 1) ss u next

-- the descriptor: p as both pointers, the offset 0, the sizes, the strides
abbrev pub described : ℕ → List Source → List Source → Source → Draft
described bits sizes strides p =
    let t : PlainType = descriptor bits (length sizes) in
    constant (pos 0) (number_type bits) λ f.
    undef t λ u.
    insert u p (pos 0 ∷ []) t λ a.
    insert a p (pos 1 ∷ []) t λ b.
    insert b f (pos 2 ∷ []) t λ c.
    inserted 3 t 0 sizes c λ d.
    inserted 4 t 0 strides d λ m.
    gives (m ∷ [])

-- call @malloc of so many bytes
abbrev pub plain_call : ℕ → Source → (Source → Draft) → Draft
plain_call bits b next =
    widened (codes "llvm.zext") bits b λ z.
    value (codes "llvm.call") (z ∷ []) (callee (codes "malloc")) Ptr next

-- call @aligned_alloc of the bytes rounded up to the alignment
abbrev pub aligned_call : ℕ → ℤ → Source → (Source → Draft) → Draft
aligned_call bits alignment b next =
    let number : PlainType = number_type bits in
    constant alignment number λ l.
    constant (alignment +ℤ negsuc 0) number λ n.
    two (codes "llvm.add") b n number λ x.
    two (codes "llvm.udiv") x l number λ y.
    two (codes "llvm.mul") y l number λ v.
    widened (codes "llvm.zext") bits l λ zl.
    widened (codes "llvm.zext") bits v λ zv.
    value (codes "llvm.call") (zl ∷ zv ∷ []) (callee (codes "aligned_alloc")) Ptr next

-- an allocation by that call of the bytes
abbrev pub allocated : ℕ → (Source → (Source → Draft) → Draft) → List Dim → PlainType → Draft
allocated bits call dims element =
    let number : PlainType = number_type bits in
    sizes_of bits dims 0 λ sizes.
    constant (pos 1) number λ o.
    strides_of bits o sizes λ strides.
    elements_of bits o strides sizes λ e.
    constant (pos (bytes_of (becomes bits element))) number λ w.
    two (codes "llvm.mul") e w number λ b.
    call b λ p.
    described bits sizes strides p

abbrev pub dynamic_count : List Dim → ℕ
dynamic_count [] = 0
dynamic_count (Fixed n ∷ dims) = dynamic_count dims
dynamic_count (Dynamic ∷ dims) = dynamic_count dims + 1

-- of a memref, where there is an operand for each dimension that isn't fixed
abbrev pub allocated_as : ℕ → (Source → (Source → Draft) → Draft) → ℕ → List PlainType → Option Template
allocated_as bits call n (Memref dims element ∷ []) = when (dynamic_count dims == n) (draft (allocated bits call dims element))
allocated_as bits call n _ = None

abbrev pub without_alignment : ℕ → Option PlainAttr → Shape → Option Template
without_alignment bits None o = allocated_as bits (plain_call bits) (length o.operands) o.results
without_alignment bits (Some a) o = None

abbrev pub with_alignment : ℕ → Option PlainAttr → Shape → Option Template
with_alignment bits (Some (Number n t)) o = allocated_as bits (aligned_call bits n) (length o.operands) o.results
with_alignment bits _ o = None

-- memref.alloc without alignment
abbrev pub alloc_row : ℕ → Shape → Option Template
alloc_row bits o = when (is_plain (length o.operands) 1 o) (without_alignment bits (entry (codes "alignment") o.props) o)

-- memref.alloc with alignment
abbrev pub aligned_alloc_row : ℕ → Shape → Option Template
aligned_alloc_row bits o = when (is_plain (length o.operands) 1 o) (with_alignment bits (entry (codes "alignment") o.props) o)

-- memref.dealloc: call @free of the allocated pointer
abbrev pub dealloc_by : List PlainType → Option Template
dealloc_by (Memref dims element ∷ []) = draft (
    extract (Operand 0) (pos 0 ∷ []) Ptr λ p.
    effect (codes "llvm.call") (p ∷ []) (callee (codes "free")) [] (gives []))
dealloc_by _ = None

abbrev pub dealloc_row : ℕ → Shape → Option Template
dealloc_row bits o = when (is_plain 1 0 o) (dealloc_by o.operands)

-- Places

-- the offset a plus, per dimension i from the i-th on, the index, an operand from the k-th on, times the stride m[4, i]
abbrev pub offset_of : ℕ → Source → ℕ → ℕ → List Dim → Source → (Source → Draft) → Draft
offset_of bits m k i [] a next = next a
offset_of bits m k i (d ∷ dims) a next =
    extract m (pos 4 ∷ pos i ∷ []) (number_type bits) λ t.
    two (codes "llvm.mul") (Operand k) t (number_type bits) λ x.
    two (codes "llvm.add") a x (number_type bits) λ b.
    offset_of bits m (k + 1) (i + 1) dims b next

-- the place of an element: from the aligned pointer on, by the offset and the indices
abbrev pub place_of : ℕ → Source → ℕ → List Dim → PlainType → (Source → Draft) → Draft
place_of bits m k dims element next =
    extract m (pos 1 ∷ []) Ptr λ p.
    extract m (pos 2 ∷ []) (number_type bits) λ a.
    offset_of bits m k 0 dims a λ b.
    widened (codes "llvm.sext") bits b λ s.
    value (codes "llvm.getelementptr") (p ∷ s ∷ [])
    ((codes "elem_type", OfType (becomes bits element)) ∷ (codes "rawConstantIndices", Numbers 32 (negsuc 2147483647 ∷ [])) ∷ []) Ptr next

abbrev pub load_by : ℕ → List PlainType → Option Template
load_by bits (Memref dims element ∷ indices) = when (length indices == length dims) (draft (
    place_of bits (Operand 0) 1 dims element λ g.
    value (codes "llvm.load") (g ∷ []) [] (becomes bits element) λ r.
    gives (r ∷ [])))
load_by bits _ = None

-- memref.load
abbrev pub load_row : ℕ → Shape → Option Template
load_row bits o = when (is_plain (length o.operands) 1 o) (load_by bits o.operands)

abbrev pub store_by : ℕ → List PlainType → Option Template
store_by bits (t ∷ Memref dims element ∷ indices) = when (length indices == length dims) (draft (
    place_of bits (Operand 1) 2 dims element λ g.
    effect (codes "llvm.store") (Operand 0 ∷ g ∷ []) [] [] (gives [])))
store_by bits _ = None

-- memref.store
abbrev pub store_row : ℕ → Shape → Option Template
store_row bits o = when (is_plain (length o.operands) 0 o) (store_by bits o.operands)

-- Sizes

-- r, or for each further dimension j its size where the index is j
abbrev pub size_at : ℕ → ℕ → List Dim → Source → Draft
size_at bits j [] r = gives (r ∷ [])
size_at bits j (d ∷ dims) r =
    extract (Operand 0) (pos 3 ∷ pos j ∷ []) (number_type bits) λ s.
    constant (pos j) (number_type bits) λ n.
    value (codes "llvm.icmp") (Operand 1 ∷ n ∷ []) (predicate 0) (Int 1) λ e.
    value (codes "llvm.select") (e ∷ s ∷ r ∷ []) [] (number_type bits) λ q.
    size_at bits (j + 1) dims q

abbrev pub dim_by : ℕ → List PlainType → Option Template
dim_by bits (Memref (d ∷ dims) element ∷ t ∷ []) = draft (extract (Operand 0) (pos 3 ∷ pos 0 ∷ []) (number_type bits) λ r. size_at bits 1 dims r)
dim_by bits _ = None

-- memref.dim
abbrev pub dim_row : ℕ → Shape → Option Template
dim_row bits o = when (is_plain 2 1 o) (dim_by bits o.operands)

abbrev pub rank_by : ℕ → List PlainType → Option Template
rank_by bits (Memref dims element ∷ []) = draft (constant (pos (length dims)) (number_type bits) λ r. gives (r ∷ []))
rank_by bits _ = None

-- memref.rank: a constant
abbrev pub rank_row : ℕ → Shape → Option Template
rank_row bits o = when (is_plain 1 1 o) (rank_by bits o.operands)

abbrev pub cast_by : List PlainType → List PlainType → Option Template
cast_by (Memref dims element ∷ []) (Memref others other ∷ []) = when (length dims == length others) (draft (gives (Operand 0 ∷ [])))
cast_by _ _ = None

-- memref.cast: the operand itself
abbrev pub cast_row : ℕ → Shape → Option Template
cast_row bits o = when (is_plain 1 1 o) (cast_by o.operands o.results)

-- Patterns

-- the names that a descriptor is made by
abbrev pub descriptor_names : List (List ℕ)
descriptor_names = codes "llvm.zext" ∷ codes "llvm.call" ∷ codes "llvm.mlir.undef" ∷ codes "llvm.insertvalue" ∷ []

-- the names that lead to an element, in front of the last
abbrev pub place_names : List ℕ → List (List ℕ)
place_names last = codes "llvm.extractvalue" ∷ codes "llvm.mul" ∷ codes "llvm.add" ∷ codes "llvm.sext" ∷ codes "llvm.getelementptr" ∷ last ∷ []

-- the set, in the order of the table
abbrev pub memref_set : List Pattern
memref_set =
    lowers (codes "memref.alloc") (codes "llvm.mlir.constant" ∷ codes "llvm.mul" ∷ descriptor_names) alloc_row
    ∷ lowers (codes "memref.alloc") (codes "llvm.mlir.constant" ∷ codes "llvm.mul" ∷ codes "llvm.add" ∷ codes "llvm.udiv" ∷ descriptor_names) aligned_alloc_row
    ∷ lowers (codes "memref.dealloc") (codes "llvm.extractvalue" ∷ codes "llvm.call" ∷ []) dealloc_row
    ∷ lowers (codes "memref.load") (place_names (codes "llvm.load")) load_row
    ∷ lowers (codes "memref.store") (place_names (codes "llvm.store")) store_row
    ∷ lowers (codes "memref.dim") (codes "llvm.extractvalue" ∷ codes "llvm.mlir.constant" ∷ codes "llvm.icmp" ∷ codes "llvm.select" ∷ []) dim_row
    ∷ lowers (codes "memref.rank") (codes "llvm.mlir.constant" ∷ []) rank_row
    ∷ lowers (codes "memref.cast") [] cast_row
    ∷ []
