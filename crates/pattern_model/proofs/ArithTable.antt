-- The rows of arith_lowering on shapes of no, one, two and three operands.
use Rattle.std.specs.Prelude.{ℕ, ◌≡◌, refl, List, [], ◌∷◌, ℤ, pos, negsuc, Option, None, codes}
use Rattle.plain_tree.specs.Types.{PlainType, Int, Index, Ptr}
use Rattle.plain_tree.specs.Attrs.{Entries, Number, Dialect}
use Rattle.conversion_model.specs.declared.templates.Source.TheVariants.{Operand, Made}
use Rattle.conversion_model.specs.Templates.{Template}
use Rattle.pattern_model.specs.ArithRows.{arith_set}
use Rattle.pattern_model.proofs.RowTables.{shape, table_at, step, steps_to, alone, the_operand, predicate_of}

abbrev props : Entries
props =
    (codes "overflowFlags", Dialect (codes "arith.overflow") (codes "nsw" ∷ codes "nuw" ∷ []))
    ∷ (codes "predicate", Number (pos 7) (Int 64))
    ∷ (codes "value", Number (pos 4294967295) Index)
    ∷ []

abbrev flags : Entries
flags = (codes "overflowFlags", Dialect (codes "llvm.overflow") (codes "nsw" ∷ codes "nuw" ∷ [])) ∷ []

abbrev binary : List ℕ → Entries → PlainType → Option Template
binary name es t = alone name (Operand 0 ∷ Operand 1 ∷ []) es t

abbrev extreme : ℤ → PlainType → Option Template
extreme n t = steps_to (step (codes "llvm.icmp") (Operand 0 ∷ Operand 1 ∷ []) (predicate_of n) (Int 1 ∷ []) ∷ step (codes "llvm.select") (Made 0 ∷ Operand 0 ∷ Operand 1 ∷ []) [] (t ∷ []) ∷ []) 1

-- of two operands: constant, sums and products with their flags, quotients, bits, shifts, comparison; then select and the
-- casts, which take another number of operands; then the extremes
abbrev two_operands : PlainType → List (Option Template)
two_operands t =
    None
    ∷ binary (codes "llvm.add") flags t ∷ binary (codes "llvm.sub") flags t ∷ binary (codes "llvm.mul") flags t
    ∷ binary (codes "llvm.sdiv") [] t ∷ binary (codes "llvm.udiv") [] t ∷ binary (codes "llvm.srem") [] t ∷ binary (codes "llvm.urem") [] t
    ∷ binary (codes "llvm.and") [] t ∷ binary (codes "llvm.or") [] t ∷ binary (codes "llvm.xor") [] t
    ∷ binary (codes "llvm.shl") flags t ∷ binary (codes "llvm.ashr") [] t ∷ binary (codes "llvm.lshr") [] t
    ∷ binary (codes "llvm.icmp") (predicate_of (pos 7)) t
    ∷ None ∷ None ∷ None ∷ None ∷ None ∷ None
    ∷ extreme (pos 4) t ∷ extreme (pos 8) t ∷ extreme (pos 2) t ∷ extreme (pos 6) t
    ∷ []

two_indices : table_at 64 (shape (Index ∷ Index ∷ []) (Index ∷ []) props) arith_set ≡ two_operands (Int 64)
two_indices = refl

two_indices_32 : table_at 32 (shape (Index ∷ Index ∷ []) (Index ∷ []) props) arith_set ≡ two_operands (Int 32)
two_indices_32 = refl

two_integers : table_at 32 (shape (Int 7 ∷ Int 7 ∷ []) (Int 7 ∷ []) props) arith_set ≡ two_operands (Int 7)
two_integers = refl

-- of one operand: what index_cast and index_castui become hangs on the two widths
abbrev one_operand : PlainType → Option Template → Option Template → List (Option Template)
one_operand t signed unsigned =
    None ∷ None ∷ None ∷ None ∷ None ∷ None ∷ None ∷ None ∷ None ∷ None ∷ None ∷ None ∷ None ∷ None ∷ None ∷ None
    ∷ alone (codes "llvm.sext") (Operand 0 ∷ []) [] t
    ∷ alone (codes "llvm.zext") (Operand 0 ∷ []) [] t
    ∷ alone (codes "llvm.trunc") (Operand 0 ∷ []) flags t
    ∷ signed ∷ unsigned
    ∷ None ∷ None ∷ None ∷ None
    ∷ []

widened : table_at 64 (shape (Int 8 ∷ []) (Index ∷ []) props) arith_set
    ≡ one_operand (Int 64) (alone (codes "llvm.sext") (Operand 0 ∷ []) [] (Int 64)) (alone (codes "llvm.zext") (Operand 0 ∷ []) [] (Int 64))
widened = refl

narrowed : table_at 32 (shape (Index ∷ []) (Int 8 ∷ []) props) arith_set
    ≡ one_operand (Int 8) (alone (codes "llvm.trunc") (Operand 0 ∷ []) [] (Int 8)) (alone (codes "llvm.trunc") (Operand 0 ∷ []) [] (Int 8))
narrowed = refl

as_wide : table_at 32 (shape (Index ∷ []) (Int 32 ∷ []) props) arith_set ≡ one_operand (Int 32) the_operand the_operand
as_wide = refl

-- of three operands select alone
abbrev three_operands : Option Template → List (Option Template)
three_operands select =
    None ∷ None ∷ None ∷ None ∷ None ∷ None ∷ None ∷ None ∷ None ∷ None ∷ None ∷ None ∷ None ∷ None ∷ None
    ∷ select
    ∷ None ∷ None ∷ None ∷ None ∷ None ∷ None ∷ None ∷ None ∷ None ∷ []

selected : table_at 64 (shape (Int 1 ∷ Ptr ∷ Ptr ∷ []) (Ptr ∷ []) props) arith_set ≡ three_operands (alone (codes "llvm.select") (Operand 0 ∷ Operand 1 ∷ Operand 2 ∷ []) [] Ptr)
selected = refl

-- of no operands the constant alone, its value in the bits of its converted type
abbrev no_operand : Option Template → List (Option Template)
no_operand constant =
    constant
    ∷ None ∷ None ∷ None ∷ None ∷ None ∷ None ∷ None ∷ None ∷ None ∷ None ∷ None ∷ None ∷ None ∷ None ∷ None
    ∷ None ∷ None ∷ None ∷ None ∷ None ∷ None ∷ None ∷ None ∷ None ∷ []

constant_64 : table_at 64 (shape [] (Index ∷ []) props) arith_set ≡ no_operand (alone (codes "llvm.mlir.constant") [] ((codes "value", Number (pos 4294967295) (Int 64)) ∷ []) (Int 64))
constant_64 = refl

constant_32 : table_at 32 (shape [] (Index ∷ []) props) arith_set ≡ no_operand (alone (codes "llvm.mlir.constant") [] ((codes "value", Number (negsuc 0) (Int 32)) ∷ []) (Int 32))
constant_32 = refl

-- without its property a constant and a comparison have no row, and sums have no flags
bare : table_at 64 (shape (Index ∷ Index ∷ []) (Index ∷ []) []) (arith_set) ≡
    None
    ∷ binary (codes "llvm.add") [] (Int 64) ∷ binary (codes "llvm.sub") [] (Int 64) ∷ binary (codes "llvm.mul") [] (Int 64)
    ∷ binary (codes "llvm.sdiv") [] (Int 64) ∷ binary (codes "llvm.udiv") [] (Int 64) ∷ binary (codes "llvm.srem") [] (Int 64) ∷ binary (codes "llvm.urem") [] (Int 64)
    ∷ binary (codes "llvm.and") [] (Int 64) ∷ binary (codes "llvm.or") [] (Int 64) ∷ binary (codes "llvm.xor") [] (Int 64)
    ∷ binary (codes "llvm.shl") [] (Int 64) ∷ binary (codes "llvm.ashr") [] (Int 64) ∷ binary (codes "llvm.lshr") [] (Int 64)
    ∷ None
    ∷ None ∷ None ∷ None ∷ None ∷ None ∷ None
    ∷ extreme (pos 4) (Int 64) ∷ extreme (pos 8) (Int 64) ∷ extreme (pos 2) (Int 64) ∷ extreme (pos 6) (Int 64)
    ∷ []
bare = refl
