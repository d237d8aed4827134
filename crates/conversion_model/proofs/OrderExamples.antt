-- Depth, order and the chosen derivation on the test set.
use Rattle.std.specs.Prelude.{ℕ, ◌≡◌, refl, false, List, [], ◌∷◌, map, Option, Some, None, codes, Ok, Err}
use Rattle.plain_tree.specs.Types.{PlainType, Int, Index, Ptr}
use Rattle.conversion_model.specs.Templates.{Template}
use Rattle.conversion_model.specs.Targets.{Target, Legal, Partial}
use Rattle.conversion_model.specs.Rows.{Pattern, Straight}
use Rattle.conversion_model.specs.Chosen.{Ranked, depth, order, chosen}
use Rattle.conversion_model.specs.Conversion.{Pass, conv}
use Rattle.conversion_model.proofs.TestSet.{test_table, undone_table, c_legal, c_dynamic, shape_a, one_op, to_one, says, plain, func_of, counted_up}

-- the place of each pattern that is tried for a name, in order
abbrev places_tried : Target → List Pattern → List ℕ → List ℕ
places_tried target table name = map (λ (r : Ranked). r.place) (order target table name)

depth_of_a : depth c_legal test_table (codes "t.a") ≡ Some 1
depth_of_a = refl

-- the pattern of less depth comes first, though the other has more benefit
order_of_a : places_tried c_legal test_table (codes "t.a") ≡ 0 ∷ 1 ∷ []
order_of_a = refl

-- the leaves of t.a are one t.c
a_becomes_c : chosen 64 c_legal test_table [] (shape_a (codes "t.a")) ≡ Some (one_op (codes "t.c") [] (Int 32))
a_becomes_c = refl

-- where t.c isn't legal, the first pattern is undone, and t.a becomes t.f by way of t.b
a_becomes_f : chosen 64 c_dynamic undone_table [] (shape_a (codes "t.a")) ≡ Some (one_op (codes "t.f") [] (Int 32))
a_becomes_f = refl

-- with no pattern for t.b besides there is none
a_stays : chosen 64 c_dynamic (to_one (codes "t.a") (codes "t.c") 1 ∷ to_one (codes "t.a") (codes "t.b") 9 ∷ []) [] (shape_a (codes "t.a")) ≡ None
a_stays = refl

-- two patterns that undo each other give no derivation
cycle_gives_none : chosen 64 (says ((codes "t.c", Legal) ∷ [])) (to_one (codes "t.a") (codes "t.b") 1 ∷ to_one (codes "t.b") (codes "t.a") 1 ∷ []) [] (shape_a (codes "t.a")) ≡ None
cycle_gives_none = refl

-- of the same depth the greater benefit comes first, then the place
order_by_benefit : places_tried (says ((codes "t.c", Legal) ∷ []))
    (to_one (codes "t.a") (codes "t.c") 1 ∷ to_one (codes "t.a") (codes "t.c") 5 ∷ to_one (codes "t.a") (codes "t.c") 1 ∷ to_one (codes "t.b") (codes "t.c") 9 ∷ to_one (codes "t.a") (codes "t.c") 5 ∷ []) (codes "t.a")
    ≡ 1 ∷ 4 ∷ 0 ∷ 2 ∷ []
order_by_benefit = refl

-- no depth comes last
order_of_none : places_tried (says ((codes "t.c", Legal) ∷ [])) (to_one (codes "t.a") (codes "t.x") 9 ∷ to_one (codes "t.a") (codes "t.c") 1 ∷ []) (codes "t.a") ≡ 1 ∷ 0 ∷ []
order_of_none = refl

-- t.w of `index` becomes t.w of a pointer, and that would become t.c
widened : List PlainType → Option Template
widened (Index ∷ []) = Some (one_op (codes "t.w") [] Ptr)
widened (Ptr ∷ []) = Some (one_op (codes "t.c") [] Ptr)
widened _ = None

widening : Pattern
widening = record { root = codes "t.w"; makes = codes "t.w" ∷ codes "t.c" ∷ []; benefit = 1; is_converted = false; row = λ bits. Straight (λ o. widened o.results) }

-- a pattern isn't applied twice on one path
once_on_a_path : chosen 64 (says ((codes "t.c", Legal) ∷ [])) (widening ∷ to_one (codes "t.x") (codes "t.c") 1 ∷ []) [] (record { name = codes "t.w"; operands = []; results = Index ∷ []; props = []; attrs = []; successors = 0; regions = 0 }) ≡ None
unfolding widening widened
once_on_a_path = refl

test_pass : Pass
test_pass = record { table = test_table; target = c_legal; mode = Partial; blocks = false }

a_converts : conv test_pass 64 counted_up (func_of [] (plain (codes "t.a") ((0, Int 32) ∷ []) [] ∷ plain (codes "t.x") [] (0 ∷ []) ∷ []))
    ≡ Ok (func_of [] (plain (codes "t.c") ((0, Int 32) ∷ []) [] ∷ plain (codes "t.x") [] (0 ∷ []) ∷ []))
unfolding test_pass
a_converts = refl

-- where there is none, the conversion fails, and names the operation
a_fails : conv (record { table = to_one (codes "t.a") (codes "t.c") 1 ∷ to_one (codes "t.a") (codes "t.b") 9 ∷ []; target = c_dynamic; mode = Partial; blocks = false }) 64 counted_up
    (func_of [] (plain (codes "t.a") ((0, Int 32) ∷ []) [] ∷ []))
    ≡ Err (record { number = 1; name = codes "t.a" })
a_fails = refl
