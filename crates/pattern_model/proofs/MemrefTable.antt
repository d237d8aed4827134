-- The rows of memref_lowering at both widths.
use Rattle.std.specs.Prelude.{ℕ, ◌+◌, ◌≡◌, refl, List, [], ◌∷◌, ◌++◌, ℤ, pos, negsuc, Option, None, codes}
use Rattle.tree_model.specs.declared.type_tree.Dim.TheVariants.{Fixed, Dynamic}
use Rattle.plain_tree.specs.Types.{PlainType, Int, Index, Memref, Ptr}
use Rattle.plain_tree.specs.Attrs.{Entries, Number, Numbers, Symbol, OfType}
use Rattle.conversion_model.specs.declared.templates.Source.{Source}
use Rattle.conversion_model.specs.declared.templates.Source.TheVariants.{Operand, Made}
use Rattle.conversion_model.specs.Types.{descriptor}
use Rattle.conversion_model.specs.Templates.{Step, Template}
use Rattle.pattern_model.specs.MemrefRows.{memref_set}
use Rattle.pattern_model.proofs.RowTables.{shape, table_at, step, steps_to, steps_only, the_operand, predicate_of, at_place}

abbrev buffer : PlainType
buffer = Memref (Fixed 2 ∷ Dynamic ∷ Fixed 4294967297 ∷ []) (Int 12)

abbrev c : ℤ → PlainType → Step
c n t = step (codes "llvm.mlir.constant") [] ((codes "value", Number n t) ∷ []) (t ∷ [])

abbrev two : List ℕ → Source → Source → PlainType → Step
two name x y t = step name (x ∷ y ∷ []) [] (t ∷ [])

abbrev call : List ℕ → List Source → Step
call name sources = step (codes "llvm.call") sources ((codes "callee", Symbol name) ∷ []) (Ptr ∷ [])

abbrev widened : List ℕ → Source → Step
widened name x = step name (x ∷ []) [] (Int 64 ∷ [])

abbrev extract : Source → List ℤ → PlainType → Step
extract m path t = step (codes "llvm.extractvalue") (m ∷ []) (at_place path) (t ∷ [])

abbrev insert : ℕ → Source → List ℤ → PlainType → Step
insert m v path t = step (codes "llvm.insertvalue") (Made m ∷ v ∷ []) (at_place path) (t ∷ [])

-- sizes 0, its operand, 1; o 2; the strides from the back: o, 3, 4; the elements 5; the bytes of one 6, of all 7.
-- `last` is the third size as it is kept.
abbrev bytes : ℤ → PlainType → List Step
bytes last t =
    c (pos 2) t ∷ c last t ∷ c (pos 1) t
    ∷ two (codes "llvm.mul") (Made 2) (Made 1) t ∷ two (codes "llvm.mul") (Made 3) (Operand 0) t
    ∷ two (codes "llvm.mul") (Made 4) (Made 0) t ∷ c (pos 2) t ∷ two (codes "llvm.mul") (Made 5) (Made 6) t ∷ []

-- the descriptor behind the pointer p, which is value n
abbrev described : ℕ → PlainType → PlainType → List Step
described n t m =
    c (pos 0) t ∷ step (codes "llvm.mlir.undef") [] [] (m ∷ [])
    ∷ insert (2 + n) (Made n) (pos 0 ∷ []) m ∷ insert (3 + n) (Made n) (pos 1 ∷ []) m ∷ insert (4 + n) (Made (1 + n)) (pos 2 ∷ []) m
    ∷ insert (5 + n) (Made 0) (pos 3 ∷ pos 0 ∷ []) m ∷ insert (6 + n) (Operand 0) (pos 3 ∷ pos 1 ∷ []) m ∷ insert (7 + n) (Made 1) (pos 3 ∷ pos 2 ∷ []) m
    ∷ insert (8 + n) (Made 4) (pos 4 ∷ pos 0 ∷ []) m ∷ insert (9 + n) (Made 3) (pos 4 ∷ pos 1 ∷ []) m ∷ insert (10 + n) (Made 2) (pos 4 ∷ pos 2 ∷ []) m ∷ []

abbrev only_alloc : Option Template → Option Template → List (Option Template)
only_alloc plain aligned = plain ∷ aligned ∷ None ∷ None ∷ None ∷ None ∷ None ∷ None ∷ []

alloc_64 : table_at 64 (shape (Index ∷ []) (buffer ∷ []) []) memref_set ≡ only_alloc
    (steps_to (bytes (pos 4294967297) (Int 64) ++ call (codes "malloc") (Made 7 ∷ []) ∷ described 8 (Int 64) (descriptor 64 3)) 19) None
alloc_64 = refl

-- at 32 bits a fixed size is kept in its bits, and the bytes are extended directly in front of the call
alloc_32 : table_at 32 (shape (Index ∷ []) (buffer ∷ []) []) memref_set ≡ only_alloc
    (steps_to (bytes (pos 1) (Int 32) ++ widened (codes "llvm.zext") (Made 7) ∷ call (codes "malloc") (Made 8 ∷ []) ∷ described 9 (Int 32) (descriptor 32 3)) 20) None
alloc_32 = refl

abbrev alignment : Entries
alignment = (codes "alignment", Number (pos 64) (Int 64)) ∷ []

-- the bytes rounded up: l 8, n 9, x 10, y 11, v 12
abbrev rounded : PlainType → List Step
rounded t = c (pos 64) t ∷ c (pos 63) t ∷ two (codes "llvm.add") (Made 7) (Made 9) t ∷ two (codes "llvm.udiv") (Made 10) (Made 8) t ∷ two (codes "llvm.mul") (Made 11) (Made 8) t ∷ []

aligned_64 : table_at 64 (shape (Index ∷ []) (buffer ∷ []) alignment) memref_set ≡ only_alloc None
    (steps_to (bytes (pos 4294967297) (Int 64) ++ rounded (Int 64) ++ call (codes "aligned_alloc") (Made 8 ∷ Made 12 ∷ []) ∷ described 13 (Int 64) (descriptor 64 3)) 24)
aligned_64 = refl

aligned_32 : table_at 32 (shape (Index ∷ []) (buffer ∷ []) alignment) memref_set ≡ only_alloc None
    (steps_to (bytes (pos 1) (Int 32) ++ rounded (Int 32)
    ++ widened (codes "llvm.zext") (Made 8) ∷ widened (codes "llvm.zext") (Made 12) ∷ call (codes "aligned_alloc") (Made 13 ∷ Made 14 ∷ []) ∷ described 15 (Int 32) (descriptor 32 3)) 26)
aligned_32 = refl

-- without dimensions the elements are o, and there are neither sizes nor strides
alloc_scalar : table_at 64 (shape [] (Memref [] Index ∷ []) []) memref_set ≡ only_alloc (steps_to (
    c (pos 1) (Int 64) ∷ c (pos 8) (Int 64) ∷ two (codes "llvm.mul") (Made 0) (Made 1) (Int 64) ∷ call (codes "malloc") (Made 2 ∷ [])
    ∷ c (pos 0) (Int 64) ∷ step (codes "llvm.mlir.undef") [] [] (descriptor 64 0 ∷ [])
    ∷ insert 5 (Made 3) (pos 0 ∷ []) (descriptor 64 0) ∷ insert 6 (Made 3) (pos 1 ∷ []) (descriptor 64 0) ∷ insert 7 (Made 4) (pos 2 ∷ []) (descriptor 64 0) ∷ []) 8) None
alloc_scalar = refl

-- dealloc: call @free of the allocated pointer
dealloc : table_at 64 (shape (buffer ∷ []) [] []) memref_set ≡ None ∷ None ∷ steps_only (
    extract (Operand 0) (pos 0 ∷ []) Ptr
    ∷ step (codes "llvm.call") (Made 0 ∷ []) ((codes "callee", Symbol (codes "free")) ∷ []) [] ∷ []) ∷ None ∷ None ∷ None ∷ None ∷ None ∷ []
dealloc = refl

abbrev grid : PlainType
grid = Memref (Dynamic ∷ Fixed 3 ∷ []) Index

-- p 0, a 1, and per index its stride, the product and the sum; m is the memref's place and k that of the first index
abbrev offset : ℕ → ℕ → PlainType → List Step
offset m k t =
    extract (Operand m) (pos 1 ∷ []) Ptr ∷ extract (Operand m) (pos 2 ∷ []) t
    ∷ extract (Operand m) (pos 4 ∷ pos 0 ∷ []) t ∷ two (codes "llvm.mul") (Operand k) (Made 2) t ∷ two (codes "llvm.add") (Made 1) (Made 3) t
    ∷ extract (Operand m) (pos 4 ∷ pos 1 ∷ []) t ∷ two (codes "llvm.mul") (Operand (1 + k)) (Made 5) t ∷ two (codes "llvm.add") (Made 4) (Made 6) t ∷ []

abbrev place : PlainType → Source → Step
place t s = step (codes "llvm.getelementptr") (Made 0 ∷ s ∷ []) ((codes "elem_type", OfType t) ∷ (codes "rawConstantIndices", Numbers 32 (negsuc 2147483647 ∷ [])) ∷ []) (Ptr ∷ [])

abbrev load : PlainType → Source → Step
load t g = step (codes "llvm.load") (g ∷ []) [] (t ∷ [])

load_64 : table_at 64 (shape (grid ∷ Index ∷ Index ∷ []) (Index ∷ []) []) memref_set ≡ None ∷ None ∷ None
    ∷ steps_to (offset 0 1 (Int 64) ++ place (Int 64) (Made 7) ∷ load (Int 64) (Made 8) ∷ []) 9 ∷ None ∷ None ∷ None ∷ None ∷ []
load_64 = refl

load_32 : table_at 32 (shape (grid ∷ Index ∷ Index ∷ []) (Index ∷ []) []) memref_set ≡ None ∷ None ∷ None
    ∷ steps_to (offset 0 1 (Int 32) ++ widened (codes "llvm.sext") (Made 7) ∷ place (Int 32) (Made 8) ∷ load (Int 32) (Made 9) ∷ []) 10 ∷ None ∷ None ∷ None ∷ None ∷ []
load_32 = refl

store_32 : table_at 32 (shape (Index ∷ grid ∷ Index ∷ Index ∷ []) [] []) memref_set ≡ None ∷ None ∷ None ∷ None
    ∷ steps_only (offset 1 2 (Int 32) ++ widened (codes "llvm.sext") (Made 7) ∷ place (Int 32) (Made 8) ∷ step (codes "llvm.store") (Operand 0 ∷ Made 9 ∷ []) [] [] ∷ []) ∷ None ∷ None ∷ None ∷ []
store_32 = refl

-- dim of three dimensions: r 0; then per dimension s, n, e and the next r
dim_64 : table_at 64 (shape (buffer ∷ Index ∷ []) (Index ∷ []) []) memref_set ≡ None ∷ None ∷ None ∷ None ∷ None ∷ steps_to (
    extract (Operand 0) (pos 3 ∷ pos 0 ∷ []) (Int 64)
    ∷ extract (Operand 0) (pos 3 ∷ pos 1 ∷ []) (Int 64) ∷ c (pos 1) (Int 64)
    ∷ step (codes "llvm.icmp") (Operand 1 ∷ Made 2 ∷ []) (predicate_of (pos 0)) (Int 1 ∷ [])
    ∷ step (codes "llvm.select") (Made 3 ∷ Made 1 ∷ Made 0 ∷ []) [] (Int 64 ∷ [])
    ∷ extract (Operand 0) (pos 3 ∷ pos 2 ∷ []) (Int 64) ∷ c (pos 2) (Int 64)
    ∷ step (codes "llvm.icmp") (Operand 1 ∷ Made 6 ∷ []) (predicate_of (pos 0)) (Int 1 ∷ [])
    ∷ step (codes "llvm.select") (Made 7 ∷ Made 5 ∷ Made 4 ∷ []) [] (Int 64 ∷ []) ∷ []) 8 ∷ None ∷ None ∷ []
dim_64 = refl

rank_32 : table_at 32 (shape (buffer ∷ []) (Index ∷ []) []) memref_set ≡ None ∷ None ∷ None ∷ None ∷ None ∷ None ∷ steps_to (c (pos 3) (Int 32) ∷ []) 0 ∷ None ∷ []
rank_32 = refl

-- a cast between memrefs is its operand; the rank is asked of it too
cast_64 : table_at 64 (shape (Memref (Dynamic ∷ []) (Int 8) ∷ []) (Memref (Fixed 4 ∷ []) (Int 8) ∷ []) []) memref_set ≡ None ∷ None ∷ None ∷ None ∷ None ∷ None
    ∷ steps_to (c (pos 1) (Int 64) ∷ []) 0 ∷ the_operand ∷ []
cast_64 = refl
