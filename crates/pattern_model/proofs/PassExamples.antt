-- Passes over small functions and modules.
use Rattle.std.specs.Prelude.{ℕ, ◌≡◌, refl, List, [], ◌∷◌, Ok, codes}
use Rattle.plain_tree.specs.Types.{Int, Index}
use Rattle.plain_tree.specs.Ops.{Op}
use Rattle.pipeline_text.specs.declared.pass.PassName.TheVariants.{ConvertArithToLlvm, ReconcileUnrealizedCasts}
use Rattle.pattern_model.specs.PassTable.{pass_tree}
use Rattle.pattern_model.proofs.Trees.{plain, ends, one_block, func, counted_up}

abbrev cast_name : List ℕ
cast_name = codes "builtin.unrealized_conversion_cast"

abbrev dbl : Op
dbl = func (codes "dbl") (Index ∷ []) (Index ∷ []) (one_block 0 ((0, Index) ∷ []) (
    plain (codes "arith.addi") ((1, Index) ∷ []) (0 ∷ 0 ∷ []) []
    ∷ plain (codes "arith.addi") ((2, Index) ∷ []) (1 ∷ 1 ∷ []) []
    ∷ ends (codes "func.return") (2 ∷ []) [] [] ∷ []))

abbrev dbl_converted : Op
dbl_converted = func (codes "dbl") (Index ∷ []) (Index ∷ []) (one_block 0 ((0, Index) ∷ []) (
    plain cast_name ((2100, Int 64) ∷ []) (0 ∷ []) []
    ∷ plain cast_name ((2101, Int 64) ∷ []) (0 ∷ []) []
    ∷ plain (codes "llvm.add") ((2102, Int 64) ∷ []) (2100 ∷ 2101 ∷ []) []
    ∷ plain cast_name ((1, Index) ∷ []) (2102 ∷ []) []
    ∷ plain cast_name ((3100, Int 64) ∷ []) (1 ∷ []) []
    ∷ plain cast_name ((3101, Int 64) ∷ []) (1 ∷ []) []
    ∷ plain (codes "llvm.add") ((3102, Int 64) ∷ []) (3100 ∷ 3101 ∷ []) []
    ∷ plain cast_name ((2, Index) ∷ []) (3102 ∷ []) []
    ∷ ends (codes "func.return") (2 ∷ []) [] [] ∷ []))

-- two casts for one value that stands at two operand places
dbl_arith : pass_tree ConvertArithToLlvm 64 counted_up dbl ≡ Ok dbl_converted
dbl_arith = refl

-- reconciled: the casts between the two additions are gone, those at the ends stand
dbl_reconciled : pass_tree ReconcileUnrealizedCasts 64 counted_up dbl_converted ≡ Ok (func (codes "dbl") (Index ∷ []) (Index ∷ []) (one_block 0 ((0, Index) ∷ []) (
    plain cast_name ((2100, Int 64) ∷ []) (0 ∷ []) []
    ∷ plain cast_name ((2101, Int 64) ∷ []) (0 ∷ []) []
    ∷ plain (codes "llvm.add") ((2102, Int 64) ∷ []) (2100 ∷ 2101 ∷ []) []
    ∷ plain (codes "llvm.add") ((3102, Int 64) ∷ []) (2102 ∷ 2102 ∷ []) []
    ∷ plain cast_name ((2, Index) ∷ []) (3102 ∷ []) []
    ∷ ends (codes "func.return") (2 ∷ []) [] [] ∷ [])))
dbl_reconciled = refl
