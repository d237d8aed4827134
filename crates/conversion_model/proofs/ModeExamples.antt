-- Modes, numbers of operations, block arguments and reconciliation.
use Rattle.std.specs.Prelude.{ℕ, ◌≡◌, refl, true, false, [], ◌∷◌, codes, Ok, Err}
use Rattle.plain_tree.specs.Types.{PlainType, Int, Index}
use Rattle.plain_tree.specs.Attrs.{Unit}
use Rattle.plain_tree.specs.Ops.{Op, op, ops_in, region, end_of_regions, block, end_of_blocks}
use Rattle.conversion_model.specs.Targets.{Target, Mode, Legal, Illegal, Partial, Full}
use Rattle.conversion_model.specs.Reconciled.{reconciled}
use Rattle.conversion_model.specs.Conversion.{Pass, conv}
use Rattle.conversion_model.proofs.TestSet.{to_one, says, plain, func_of, counted_up}

abbrev target : Target
target = says ((codes "t.func", Legal) ∷ (codes "t.c", Legal) ∷ (codes "t.a", Illegal) ∷ [])

abbrev pass : Mode → Pass
pass mode = record { table = to_one (codes "t.a") (codes "t.c") 1 ∷ []; target = target; mode = mode; blocks = false }

-- an operation with a region that holds one of those names, then another one
abbrev nested : Op
nested = func_of [] (
    op (record { name = codes "t.c"; props = []; attrs = (codes "note", Unit) ∷ [] }) [] [] (region (block 1 [] (ops_in (plain (codes "t.c") [] [] ∷ plain (codes "scf.yield") [] [] ∷ [])) end_of_blocks) end_of_regions) []
    ∷ plain (codes "t.x") [] [] ∷ [])

-- full mode demands all but terminators that go with their holder: the first that fails is numbered behind what stands in
-- regions before it
full_fails : conv (pass Full) 64 counted_up nested ≡ Err (record { number = 4; name = codes "t.x" })
full_fails = refl

-- partial mode demands none of them, and they stay whole
partial_stays : conv (pass Partial) 64 counted_up nested ≡ Ok nested
partial_stays = refl

abbrev legal_only : Op
legal_only = func_of [] (op (record { name = codes "t.c"; props = []; attrs = (codes "note", Unit) ∷ [] }) [] [] end_of_regions [] ∷ plain (codes "t.a") ((0, Int 32) ∷ []) [] ∷ plain (codes "t.c") [] (0 ∷ []) ∷ [])

-- a legal operation stays whole in full mode too, with its attributes
full_keeps : conv (pass Full) 64 counted_up legal_only
    ≡ Ok (func_of [] (op (record { name = codes "t.c"; props = []; attrs = (codes "note", Unit) ∷ [] }) [] [] end_of_regions [] ∷ plain (codes "t.c") ((0, Int 32) ∷ []) [] ∷ plain (codes "t.c") [] (0 ∷ []) ∷ []))
full_keeps = refl

abbrev cast : ℕ → PlainType → ℕ → Op
cast r t v = plain (codes "builtin.unrealized_conversion_cast") ((r, t) ∷ []) (v ∷ [])

abbrev blocks : Op
blocks = op (record { name = codes "t.func"; props = []; attrs = [] }) [] [] (region
    (block 0 ((0, Index) ∷ []) (ops_in [])
    (block 1 ((1, Int 8) ∷ (2, Index) ∷ (3, Index) ∷ []) (ops_in (plain (codes "t.c") [] (1 ∷ 2 ∷ 3 ∷ []) ∷ [])) end_of_blocks)) end_of_regions) []

-- each argument of a block that isn't its region's first gets its converted type, with a cast back at the block's start
blocks_converted : conv (record { table = []; target = target; mode = Partial; blocks = true }) 32 counted_up blocks ≡ Ok (op (record { name = codes "t.func"; props = []; attrs = [] }) [] [] (region
    (block 0 ((0, Index) ∷ []) (ops_in [])
    (block 1 ((1, Int 8) ∷ (811, Int 32) ∷ (812, Int 32) ∷ []) (ops_in (cast 2 Index 811 ∷ cast 3 Index 812 ∷ plain (codes "t.c") [] (1 ∷ 2 ∷ 3 ∷ []) ∷ [])) end_of_blocks)) end_of_regions) [])
blocks_converted = refl

-- two casts that undo each other give their uses to the first operand; then no cast has uses
undone : reconciled (func_of ((0, Index) ∷ []) (cast 1 (Int 64) 0 ∷ cast 2 Index 1 ∷ plain (codes "t.use") [] (2 ∷ []) ∷ []))
    ≡ func_of ((0, Index) ∷ []) (plain (codes "t.use") [] (0 ∷ []) ∷ [])
undone = refl

-- of other types they stay
not_undone : reconciled (func_of ((0, Index) ∷ []) (cast 1 (Int 64) 0 ∷ cast 2 (Int 32) 1 ∷ plain (codes "t.use") [] (2 ∷ []) ∷ []))
    ≡ func_of ((0, Index) ∷ []) (cast 1 (Int 64) 0 ∷ cast 2 (Int 32) 1 ∷ plain (codes "t.use") [] (2 ∷ []) ∷ [])
not_undone = refl

-- casts of any numbers of operands and results go where none is used, and then those that only they used
chain_unused : reconciled (func_of ((0, Index) ∷ []) (
    cast 1 (Int 64) 0 ∷ plain (codes "builtin.unrealized_conversion_cast") ((2, Index) ∷ (3, Index) ∷ []) (1 ∷ 1 ∷ []) ∷ plain (codes "builtin.unrealized_conversion_cast") [] [] ∷ plain (codes "t.use") [] (0 ∷ []) ∷ []))
    ≡ func_of ((0, Index) ∷ []) (plain (codes "t.use") [] (0 ∷ []) ∷ [])
chain_unused = refl

-- two casts that use each other, as may stand where nothing reaches: neither gives its uses to itself
each_other : reconciled (func_of [] (cast 1 (Int 64) 2 ∷ cast 2 Index 1 ∷ [])) ≡ func_of [] (cast 1 (Int 64) 2 ∷ cast 2 Index 1 ∷ [])
each_other = refl
