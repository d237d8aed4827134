-- Casts round the products of patterns that convert types.
use Rattle.std.specs.Prelude.{ℕ, ◌≡◌, refl, Bool, true, false, List, [], ◌∷◌, Some, codes, Ok}
use Rattle.plain_tree.specs.Types.{PlainType, Int, Index}
use Rattle.conversion_model.specs.declared.templates.Source.{Source}
use Rattle.conversion_model.specs.Templates.{Step, Template}
use Rattle.conversion_model.specs.Chosen.{chosen}
use Rattle.plain_tree.specs.Ops.{Op}
use Rattle.conversion_model.specs.declared.templates.Source.TheVariants.{Operand, Made}
use Rattle.conversion_model.specs.Targets.{Shape, Legal, Illegal, Partial}
use Rattle.conversion_model.specs.Rows.{Pattern, Straight}
use Rattle.conversion_model.specs.Conversion.{Pass, conv}
use Rattle.conversion_model.proofs.TestSet.{one_op, says, plain, func_of, counted_up}

add_pattern : Pattern
add_pattern = record { root = codes "t.add"; makes = codes "t.sum" ∷ []; benefit = 1; is_converted = true; row = λ bits. Straight (λ o. Some (one_op (codes "t.sum") (Operand 0 ∷ Operand 1 ∷ []) (Int bits))) }

add_pass : Pass
add_pass = record { table = add_pattern ∷ []; target = says ((codes "t.sum", Legal) ∷ (codes "t.add", Illegal) ∷ []); mode = Partial; blocks = false }

dbl : Op
dbl = func_of ((0, Index) ∷ []) (plain (codes "t.add") ((1, Index) ∷ []) (0 ∷ 0 ∷ []) ∷ plain (codes "t.add") ((2, Index) ∷ []) (1 ∷ 1 ∷ []) ∷ plain (codes "t.use") [] (2 ∷ []) ∷ [])

abbrev cast_name : List ℕ
cast_name = codes "builtin.unrealized_conversion_cast"

-- two casts for one value at two operand places
dbl_converts : conv add_pass 64 counted_up dbl ≡ Ok (func_of ((0, Index) ∷ [])
    (plain cast_name ((2100, Int 64) ∷ []) (0 ∷ [])
    ∷ plain cast_name ((2101, Int 64) ∷ []) (0 ∷ [])
    ∷ plain (codes "t.sum") ((2102, Int 64) ∷ []) (2100 ∷ 2101 ∷ [])
    ∷ plain cast_name ((1, Index) ∷ []) (2102 ∷ [])
    ∷ plain cast_name ((3100, Int 64) ∷ []) (1 ∷ [])
    ∷ plain cast_name ((3101, Int 64) ∷ []) (1 ∷ [])
    ∷ plain (codes "t.sum") ((3102, Int 64) ∷ []) (3100 ∷ 3101 ∷ [])
    ∷ plain cast_name ((2, Index) ∷ []) (3102 ∷ [])
    ∷ plain (codes "t.use") [] (2 ∷ [])
    ∷ []))
unfolding add_pass add_pattern dbl
dbl_converts = refl

-- a pattern of two products, of which the second makes the results
twice : Template
twice = record {
  steps =
      record { name = codes "t.sum"; props = []; sources = Operand 1 ∷ Operand 0 ∷ []; successors = []; makes = Int 64 ∷ [] }
      ∷ record { name = codes "t.sum"; props = []; sources = Made 0 ∷ Operand 1 ∷ []; successors = []; makes = Int 64 ∷ Int 64 ∷ [] } ∷ [];
  results = Made 2 ∷ Operand 0 ∷ [];
}

twice_pattern : Bool → Pattern
twice_pattern converted = record { root = codes "t.add"; makes = codes "t.sum" ∷ []; benefit = 1; is_converted = converted; row = λ bits. Straight (λ o. Some twice) }

abbrev cast : Source → PlainType → Step
cast value t = record { name = codes "builtin.unrealized_conversion_cast"; props = []; sources = value ∷ []; successors = []; makes = t ∷ [] }

abbrev sum : List Source → List PlainType → Step
sum sources makes = record { name = codes "t.sum"; props = []; sources = sources; successors = []; makes = makes }

abbrev two_indices : Shape
two_indices = record { name = codes "t.add"; operands = Index ∷ Index ∷ []; results = Index ∷ Index ∷ []; props = []; attrs = []; successors = 0; regions = 0 }

-- every type changes: a cast for each operand in front, one for each result behind; the second result is the first operand
two_products : chosen 64 (says ((codes "t.sum", Legal) ∷ [])) (twice_pattern true ∷ []) [] two_indices ≡ Some (record {
  steps =
      cast (Operand 0) (Int 64) ∷ cast (Operand 1) (Int 64)
      ∷ sum (Made 1 ∷ Made 0 ∷ []) (Int 64 ∷ [])
      ∷ sum (Made 2 ∷ Made 1 ∷ []) (Int 64 ∷ Int 64 ∷ [])
      ∷ cast (Made 4) Index ∷ cast (Made 0) Index ∷ [];
  results = Made 5 ∷ Made 6 ∷ [];
})
unfolding twice_pattern twice
two_products = refl

-- the same pattern, where it takes types as they are: no cast, and the second result is the operand itself
two_products_as_they_are : chosen 64 (says ((codes "t.sum", Legal) ∷ [])) (twice_pattern false ∷ []) [] two_indices ≡ Some twice
unfolding twice_pattern twice
two_products_as_they_are = refl

-- a result that is an operand takes no operation: its uses are those of the operand
given_itself : Pattern
given_itself = record { root = codes "t.same"; makes = []; benefit = 1; is_converted = true; row = λ bits. Straight (λ o. Some (record { steps = []; results = Operand 0 ∷ [] })) }

same_pass : Pass
same_pass = record { table = given_itself ∷ []; target = says ((codes "t.same", Illegal) ∷ []); mode = Partial; blocks = false }

-- one after another, so that a copy of a copy is followed to its end
same_converts : conv same_pass 64 counted_up (func_of ((0, Int 8) ∷ []) (plain (codes "t.same") ((1, Int 8) ∷ []) (0 ∷ []) ∷ plain (codes "t.same") ((2, Int 8) ∷ []) (1 ∷ []) ∷ plain (codes "t.use") [] (2 ∷ 1 ∷ []) ∷ []))
    ≡ Ok (func_of ((0, Int 8) ∷ []) (plain (codes "t.use") [] (0 ∷ 0 ∷ []) ∷ []))
unfolding same_pass given_itself
same_converts = refl

-- also where the copy that it copies stands behind it
same_behind : conv same_pass 64 counted_up (func_of ((0, Int 8) ∷ []) (plain (codes "t.same") ((2, Int 8) ∷ []) (1 ∷ []) ∷ plain (codes "t.same") ((1, Int 8) ∷ []) (0 ∷ []) ∷ plain (codes "t.use") [] (2 ∷ 1 ∷ []) ∷ []))
    ≡ Ok (func_of ((0, Int 8) ∷ []) (plain (codes "t.use") [] (0 ∷ 0 ∷ []) ∷ []))
unfolding same_pass given_itself
same_behind = refl

-- between types that differ, a cast in and a cast out
same_casts : conv same_pass 64 counted_up (func_of ((0, Index) ∷ []) (plain (codes "t.same") ((1, Int 64) ∷ []) (0 ∷ []) ∷ plain (codes "t.use") [] (1 ∷ []) ∷ []))
    ≡ Ok (func_of ((0, Index) ∷ []) (plain cast_name ((1, Int 64) ∷ []) (0 ∷ []) ∷ plain (codes "t.use") [] (1 ∷ []) ∷ []))
unfolding same_pass given_itself
same_casts = refl
