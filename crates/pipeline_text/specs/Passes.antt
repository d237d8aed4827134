-- The table of passes.
use Rattle.std.specs.Prelude.{ℕ, Bool, true, false, List, codes}
use Rattle.pipeline_text.specs.declared.token.Level.{Level}
use Rattle.pipeline_text.specs.declared.token.Level.TheVariants.{Module, Nested}
use Rattle.pipeline_text.specs.declared.pass.PassName.{PassName}
use Rattle.pipeline_text.specs.declared.pass.PassName.TheVariants.{ConvertScfToCf, ArithExpand, ConvertArithToLlvm, ConvertCfToLlvm, ConvertFuncToLlvm, FinalizeMemrefToLlvm, ReconcileUnrealizedCasts, FullConvertToLlvm}

-- the name in a text
abbrev pub pass_text : PassName → List ℕ
pass_text ConvertScfToCf = codes "convert-scf-to-cf"
pass_text ArithExpand = codes "arith-expand"
pass_text ConvertArithToLlvm = codes "convert-arith-to-llvm"
pass_text ConvertCfToLlvm = codes "convert-cf-to-llvm"
pass_text ConvertFuncToLlvm = codes "convert-func-to-llvm"
pass_text FinalizeMemrefToLlvm = codes "finalize-memref-to-llvm"
pass_text ReconcileUnrealizedCasts = codes "reconcile-unrealized-casts"
pass_text FullConvertToLlvm = codes "full-convert-to-llvm"

-- whether it may stand in a nested list
abbrev pub may_nest : PassName → Bool
may_nest ConvertScfToCf = true
may_nest ArithExpand = true
may_nest ConvertArithToLlvm = true
may_nest ConvertCfToLlvm = true
may_nest ConvertFuncToLlvm = false
may_nest FinalizeMemrefToLlvm = false
may_nest ReconcileUnrealizedCasts = true
may_nest FullConvertToLlvm = false

-- in the module's list each may stand
abbrev pub may_stand : Level → PassName → Bool
may_stand Module p = true
may_stand Nested p = may_nest p

-- whether it has the option index-bitwidth
abbrev pub has_width : PassName → Bool
has_width ConvertScfToCf = false
has_width ArithExpand = false
has_width ConvertArithToLlvm = true
has_width ConvertCfToLlvm = true
has_width ConvertFuncToLlvm = true
has_width FinalizeMemrefToLlvm = true
has_width ReconcileUnrealizedCasts = false
has_width FullConvertToLlvm = true
