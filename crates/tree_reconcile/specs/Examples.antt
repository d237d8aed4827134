-- Worked examples.
use Rattle.std.specs.Prelude.{◌≡◌, ℕ, List, [], ◌∷◌, codes}
use Rattle.plain_tree.specs.Types.{PlainType, Int, Index}
use Rattle.plain_tree.specs.Ops.{Op, op, region, end_of_regions, block, end_of_blocks, ops_in}
use Rattle.conversion_model.specs.Reconciled.{reconciled}

abbrev cast : ℕ → PlainType → ℕ → Op
cast r t v = op (record { name = codes "builtin.unrealized_conversion_cast"; props = []; attrs = [] }) ((r, t) ∷ []) (v ∷ []) end_of_regions []

abbrev store : List ℕ → Op
store vs = op (record { name = codes "llvm.store"; props = []; attrs = [] }) [] vs end_of_regions []

-- a function of one `index`, the value 0
abbrev function : List Op → Op
function os = op (record { name = codes "llvm.func"; props = []; attrs = [] }) [] [] (region (block 0 ((0, Index) ∷ []) (ops_in os) end_of_blocks) end_of_regions) []

-- two casts of one value, one of them used itself, and a cast back from each: only the used one stays
abbrev pub TwoCasts : Type 0
TwoCasts =
    reconciled (function (cast 1 (Int 64) 0 ∷ cast 2 (Int 64) 0 ∷ cast 3 Index 1 ∷ cast 4 Index 2 ∷ store (3 ∷ 4 ∷ 2 ∷ []) ∷ []))
    ≡ function (cast 2 (Int 64) 0 ∷ store (0 ∷ 0 ∷ 2 ∷ []) ∷ [])

-- a cast back from a cast back, a chain that goes as a whole
abbrev pub Chain : Type 0
Chain =
    reconciled (function (cast 1 (Int 64) 0 ∷ cast 2 Index 1 ∷ cast 3 (Int 64) 2 ∷ cast 4 Index 3 ∷ store (4 ∷ []) ∷ []))
    ≡ function (store (0 ∷ []) ∷ [])
