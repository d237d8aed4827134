-- The passes of a pipeline.
use Rattle.std.specs.Prelude.{ℕ, ◌==◌, Bool, List, [], ◌∷◌, filter, map}
use Rattle.std.specs.List.{list_any}
use Rattle.pipeline_text.specs.declared.pass.PassName.{PassName}
use Rattle.pipeline_text.specs.declared.pass.PassName.TheVariants.{ConvertScfToCf, ArithExpand, ConvertArithToLlvm, ConvertCfToLlvm, ConvertFuncToLlvm, FinalizeMemrefToLlvm, ReconcileUnrealizedCasts, FullConvertToLlvm}
use Rattle.pipeline_text.specs.declared.pass.PassUse.{PassUse}
use Rattle.pipeline_text.specs.declared.pass.Stage.{Stage}
use Rattle.pipeline_text.specs.declared.pass.Stage.TheVariants.{Whole, Each}
use Rattle.ready_passes.specs.declared.ready.ReadyPass.{ReadyPass}
use Rattle.ready_passes.specs.declared.used.ReadyPasses.{ReadyPasses}

-- the place of a pass in the table of passes
abbrev pub pass_number : PassName → ℕ
pass_number ConvertScfToCf = 0
pass_number ArithExpand = 1
pass_number ConvertArithToLlvm = 2
pass_number ConvertCfToLlvm = 3
pass_number ConvertFuncToLlvm = 4
pass_number FinalizeMemrefToLlvm = 5
pass_number ReconcileUnrealizedCasts = 6
pass_number FullConvertToLlvm = 7

-- the passes that convert, in the order of the table
abbrev pub conversions : List PassName
conversions =
    ConvertScfToCf ∷ ArithExpand ∷ ConvertArithToLlvm ∷ ConvertCfToLlvm ∷ ConvertFuncToLlvm ∷ FinalizeMemrefToLlvm ∷ FullConvertToLlvm ∷ []

-- whether a list of passes has this one
abbrev pub uses_pass : PassName → List PassUse → Bool
uses_pass pass uses = list_any (λ (u : PassUse). pass_number u.pass == pass_number pass) uses

abbrev pub stage_uses : PassName → Stage → Bool
stage_uses pass (Whole u) = pass_number u.pass == pass_number pass
stage_uses pass (Each anchor uses) = uses_pass pass uses

-- whether a pipeline has the pass
abbrev pub is_used : PassName → List Stage → Bool
is_used pass stages = list_any (stage_uses pass) stages

-- those of these passes that a pipeline has
abbrev pub used_of : List Stage → List PassName → List PassName
used_of stages passes = filter (λ p. is_used p stages) passes

-- which passes are ready
abbrev pub names_in : List ReadyPass → List PassName
names_in ps = map (λ p. p.pass) ps

abbrev pub passes_in : ReadyPasses → List PassName
passes_in r = names_in r.passes.items
