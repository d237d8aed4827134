-- Pipelines over modules: failures with their numbers, what stands behind them, and the step on the module.
use Rattle.std.specs.Prelude.{ℕ, ◌≡◌, refl, List, [], ◌∷◌, map, Option, Some, None, codes}
use Rattle.plain_tree.specs.Types.{PlainType, Int, Index, Ptr, Void}
use Rattle.plain_tree.specs.Attrs.{Symbol}
use Rattle.plain_tree.specs.Ops.{Op, end_of_blocks, PlainModule}
use Rattle.pipeline_text.specs.declared.pass.PassName.TheVariants.{ConvertScfToCf, ArithExpand, ConvertArithToLlvm, ConvertCfToLlvm, ConvertFuncToLlvm, ReconcileUnrealizedCasts, FullConvertToLlvm}
use Rattle.pipeline_text.specs.declared.pass.PassName.{PassName}
use Rattle.pipeline_text.specs.declared.pass.Anchor.TheVariants.{FuncFunc}
use Rattle.pipeline_text.specs.declared.pass.PassUse.{PassUse}
use Rattle.pipeline_text.specs.declared.pass.Stage.TheVariants.{Whole, Each}
use Rattle.conversion_model.specs.Chosen.{Ranked, depth, order}
use Rattle.conversion_model.specs.Conversion.{Supply}
use Rattle.pattern_model.specs.PassTable.{full_target, patterns_with}
use Rattle.pattern_model.specs.Tables.{all_sets}
use Rattle.pattern_model.specs.ModuleStep.{allocators_declared}
use Rattle.pattern_model.specs.Fold.{folded_stages, width}
use Rattle.pattern_model.proofs.Trees.{plain, ends, one_block, func, llvm_func, counted_up}

abbrev new : ℕ → ℕ → ℕ → Supply
new stage function pass = counted_up

abbrev used : PassName → PassUse
used p = record { pass = p; bits = 64 }

abbrev two_args : List PlainType
two_args = Int 32 ∷ Int 32 ∷ []

abbrev in_func : List ℕ → List ℕ → Op
in_func name operation = func name two_args (Int 32 ∷ []) (one_block 0 ((0, Int 32) ∷ (1, Int 32) ∷ []) (plain operation ((2, Int 32) ∷ []) (0 ∷ 1 ∷ []) [] ∷ ends (codes "func.return") (2 ∷ []) [] [] ∷ []))

abbrev module_of : List Op → PlainModule
module_of funcs = record { props = []; attrs = []; funcs = funcs }

-- The function b has an operation without a row: it stays as it is, and names it as operation 1, with no pattern. The others
-- are converted, and the stage behind isn't run.
b_fails : folded_stages new (Each FuncFunc (used ConvertArithToLlvm ∷ []) ∷ Whole (used ConvertFuncToLlvm) ∷ [])
    (module_of (in_func (codes "a") (codes "arith.addi") ∷ in_func (codes "b") (codes "arith.ceildivsi") ∷ in_func (codes "c") (codes "arith.subi") ∷ []))
    ≡ record {
      module_behind = module_of (in_func (codes "a") (codes "llvm.add") ∷ in_func (codes "b") (codes "arith.ceildivsi") ∷ in_func (codes "c") (codes "llvm.sub") ∷ []);
      failures = record { function = 1; position = 0; pass = ConvertArithToLlvm; number = 1; name = codes "arith.ceildivsi"; patterns = 0 } ∷ [];
    }
b_fails = refl

-- a pass that stands as a stage leaves all functions as they are where one fails
whole_fails : folded_stages new (Whole (used FullConvertToLlvm) ∷ []) (module_of (in_func (codes "a") (codes "arith.addi") ∷ in_func (codes "b") (codes "foo.bar") ∷ []))
    ≡ record {
      module_behind = module_of (in_func (codes "a") (codes "arith.addi") ∷ in_func (codes "b") (codes "foo.bar") ∷ []);
      failures = record { function = 1; position = 0; pass = FullConvertToLlvm; number = 1; name = codes "foo.bar"; patterns = 0 } ∷ [];
    }
whole_fails = refl

-- within a nested list a function is as before the pass that failed, which is the second
second_fails : folded_stages new (Each FuncFunc (used ArithExpand ∷ used ConvertScfToCf ∷ used ConvertCfToLlvm ∷ used ConvertArithToLlvm ∷ []) ∷ [])
    (module_of (func (codes "f") (Index ∷ []) [] (one_block 0 ((0, Index) ∷ []) (plain (codes "arith.addi") ((1, Index) ∷ []) (0 ∷ 0 ∷ []) [] ∷ plain (codes "arith.maxsi") ((2, Index) ∷ []) (0 ∷ []) [] ∷ ends (codes "func.return") [] [] [] ∷ [])) ∷ []))
    ≡ record {
      module_behind = module_of (func (codes "f") (Index ∷ []) [] (one_block 0 ((0, Index) ∷ []) (plain (codes "arith.addi") ((1, Index) ∷ []) (0 ∷ 0 ∷ []) [] ∷ plain (codes "arith.maxsi") ((2, Index) ∷ []) (0 ∷ []) [] ∷ ends (codes "func.return") [] [] [] ∷ [])) ∷ []);
      failures = record { function = 0; position = 0; pass = ArithExpand; number = 2; name = codes "arith.maxsi"; patterns = 1 } ∷ [];
    }
second_fails = refl

-- patterns with a root count whether or not they are defined there
counts : patterns_with FullConvertToLlvm (codes "memref.alloc") ∷ patterns_with FullConvertToLlvm (codes "builtin.unrealized_conversion_cast")
    ∷ patterns_with ConvertFuncToLlvm (codes "builtin.unrealized_conversion_cast") ∷ patterns_with ReconcileUnrealizedCasts (codes "memref.alloc") ∷ []
    ≡ 2 ∷ 1 ∷ 0 ∷ 0 ∷ []
counts = refl

-- Under the full pass a maximum has two patterns: of depth 1 that to llvm, which stands later, and of depth 2 the expansion.
abbrev place_and_depth : Ranked → ℕ × Option ℕ
place_and_depth r = (r.place, r.depth)

maxsi_order : map place_and_depth (order full_target all_sets (codes "arith.maxsi")) ≡ (31, Some 1) ∷ (8, Some 2) ∷ []
maxsi_order = refl

depths : map (depth full_target all_sets) (codes "llvm.add" ∷ codes "arith.addi" ∷ codes "arith.ceildivsi" ∷ codes "cf.br" ∷ codes "scf.for" ∷ codes "memref.cast" ∷ codes "llvm.br" ∷ codes "foo.bar" ∷ [])
    ≡ Some 0 ∷ Some 1 ∷ Some 2 ∷ Some 1 ∷ Some 2 ∷ Some 1 ∷ Some 0 ∷ None ∷ []
depths = refl

-- the first pass with the option gives the width; 64 where there is none
widths : width (Whole (record { pass = ArithExpand; bits = 64 }) ∷ Each FuncFunc (record { pass = ConvertCfToLlvm; bits = 32 } ∷ []) ∷ []) ∷ width (Whole (record { pass = ArithExpand; bits = 32 }) ∷ []) ∷ []
    ≡ 32 ∷ 64 ∷ []
widths = refl

call : List ℕ → List (ℕ × PlainType) → List ℕ → Op
call name results operands = plain (codes "llvm.call") results operands ((codes "callee", Symbol name) ∷ [])

abbrev caller : Op
caller = llvm_func (codes "f") (Int 64 ∷ []) Void (one_block 0 ((0, Int 64) ∷ []) (call (codes "aligned_alloc") ((1, Ptr) ∷ []) (0 ∷ 0 ∷ []) ∷ call (codes "malloc") ((2, Ptr) ∷ []) (0 ∷ []) ∷ ends (codes "llvm.return") [] [] [] ∷ []))

-- declarations of those that are called, in their order, put last; one that is there already isn't put there again
declared : allocators_declared (caller ∷ []) ≡ caller ∷ llvm_func (codes "malloc") (Int 64 ∷ []) Ptr end_of_blocks ∷ llvm_func (codes "aligned_alloc") (Int 64 ∷ Int 64 ∷ []) Ptr end_of_blocks ∷ []
unfolding call
declared = refl

declared_once : allocators_declared (func (codes "malloc") [] [] end_of_blocks ∷ caller ∷ []) ≡ func (codes "malloc") [] [] end_of_blocks ∷ caller ∷ llvm_func (codes "aligned_alloc") (Int 64 ∷ Int 64 ∷ []) Ptr end_of_blocks ∷ []
unfolding call
declared_once = refl
