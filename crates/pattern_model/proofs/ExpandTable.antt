-- The rows of arith_expand on two operands of one type.
use Rattle.std.specs.Prelude.{ℕ, ◌≡◌, refl, List, [], ◌∷◌, ℤ, pos, negsuc, Option, codes}
use Rattle.plain_tree.specs.Types.{PlainType, Int, Index}
use Rattle.plain_tree.specs.Attrs.{Number}
use Rattle.conversion_model.specs.declared.templates.Source.{Source}
use Rattle.conversion_model.specs.declared.templates.Source.TheVariants.{Operand, Made}
use Rattle.conversion_model.specs.Templates.{Step, Template}
use Rattle.pattern_model.specs.ExpandRows.{expand_set}
use Rattle.pattern_model.proofs.RowTables.{shape, table_at, step, steps_to, predicate_of}

abbrev a : Source
a = Operand 0

abbrev b : Source
b = Operand 1

abbrev c : ℤ → PlainType → Step
c n t = step (codes "arith.constant") [] ((codes "value", Number n t) ∷ []) (t ∷ [])

abbrev two : List ℕ → Source → Source → PlainType → Step
two name x y t = step name (x ∷ y ∷ []) [] (t ∷ [])

abbrev cmpi : ℤ → Source → Source → Step
cmpi n x y = step (codes "arith.cmpi") (x ∷ y ∷ []) (predicate_of n) (Int 1 ∷ [])

abbrev select : Source → Source → Source → PlainType → Step
select x y z t = step (codes "arith.select") (x ∷ y ∷ z ∷ []) [] (t ∷ [])

-- q 0, m 1, d 2, z 3, x 4, y 5, s 6, g 7, o 8, p 9; `one` is how 1 is kept
abbrev rounded : ℤ → List ℕ → ℤ → PlainType → Option Template
rounded signs last one t = steps_to (
    two (codes "arith.divsi") a b t ∷ two (codes "arith.muli") (Made 0) b t ∷ cmpi (pos 1) a (Made 1) ∷ c (pos 0) t
    ∷ cmpi (pos 2) a (Made 3) ∷ cmpi (pos 2) b (Made 3) ∷ cmpi signs (Made 4) (Made 5) ∷ two (codes "arith.andi") (Made 2) (Made 6) (Int 1)
    ∷ c one t ∷ two last (Made 0) (Made 8) t ∷ select (Made 7) (Made 9) (Made 0) t ∷ []) 10

abbrev expanded : ℤ → PlainType → List (Option Template)
expanded one t =
    rounded (pos 0) (codes "arith.addi") one t
    -- z 0, o 1, e 2, m 3, q 4, p 5
    ∷ steps_to (c (pos 0) t ∷ c one t ∷ cmpi (pos 0) a (Made 0) ∷ two (codes "arith.subi") a (Made 1) t ∷ two (codes "arith.divui") (Made 3) b t ∷ two (codes "arith.addi") (Made 4) (Made 1) t ∷ select (Made 2) (Made 0) (Made 5) t ∷ []) 6
    ∷ rounded (pos 1) (codes "arith.subi") one t
    ∷ steps_to (cmpi (pos 4) a b ∷ select (Made 0) a b t ∷ []) 1
    ∷ steps_to (cmpi (pos 2) a b ∷ select (Made 0) a b t ∷ []) 1
    ∷ []

of_integers : table_at 64 (shape (Int 32 ∷ Int 32 ∷ []) (Int 32 ∷ []) []) expand_set ≡ expanded (pos 1) (Int 32)
of_integers = refl

of_indices : table_at 32 (shape (Index ∷ Index ∷ []) (Index ∷ []) []) expand_set ≡ expanded (pos 1) Index
of_indices = refl

-- 1 of one bit is `true`
of_bits : table_at 64 (shape (Int 1 ∷ Int 1 ∷ []) (Int 1 ∷ []) []) expand_set ≡ expanded (negsuc 0) (Int 1)
of_bits = refl
