-- The fold of a pipeline over a module.
use Rattle.std.specs.Prelude.{ℕ, ◌+◌, Bool, true, false, List, [], ◌∷◌, ◌++◌, map, Option, Some, None, Result, Ok, Err, if◌then◌else◌, codes}
use Rattle.std.specs.Str.{bytes_eq}
use Rattle.pipeline_text.specs.declared.pass.PassName.{PassName}
use Rattle.pipeline_text.specs.declared.pass.PassUse.{PassUse}
use Rattle.pipeline_text.specs.declared.pass.Anchor.{Anchor}
use Rattle.pipeline_text.specs.declared.pass.Anchor.TheVariants.{FuncFunc, LlvmFunc}
use Rattle.pipeline_text.specs.declared.pass.Pipeline.{Pipeline}
use Rattle.pipeline_text.specs.Passes.{has_width}
use Rattle.pipeline_text.specs.declared.pass.Stage.{Stage}
use Rattle.pipeline_text.specs.declared.pass.Stage.TheVariants.{Whole, Each}
use Rattle.plain_tree.specs.Ops.{Op, PlainModule}
use Rattle.conversion_model.specs.Targets.{name_of}
use Rattle.conversion_model.specs.Conversion.{Supply, Unlegalised}
use Rattle.pattern_model.specs.PassTable.{pass_tree, patterns_with}
use Rattle.pattern_model.specs.ModuleStep.{module_step}

-- what the two lines on a failed function say: the positions of the function and of the pass in its stage, the pass, the
-- number and the name of the operation, and how many patterns of the pass have it as root
pub record Failure : Type 0 where
  pub function : ℕ
  pub position : ℕ
  pub pass : PassName
  pub number : ℕ
  pub name : List ℕ
  pub patterns : ℕ

abbrev pub failure : ℕ → ℕ → PassName → Unlegalised → Failure
failure function position pass e = record { function = function; position = position; pass = pass; number = e.number; name = e.name; patterns = patterns_with pass e.name }

-- the width of a pipeline: that of its first pass that has the option, 64 where there is none
abbrev pub or_width : Option ℕ → Option ℕ → Option ℕ
or_width None other = other
or_width (Some bits) other = Some bits

abbrev pub uses_width : List PassUse → Option ℕ
uses_width [] = None
uses_width (u ∷ us) = if has_width u.pass then Some u.bits else uses_width us

abbrev pub stage_width : Stage → Option ℕ
stage_width (Whole u) = uses_width (u ∷ [])
stage_width (Each anchor uses) = uses_width uses

abbrev pub stages_width : List Stage → Option ℕ
stages_width [] = None
stages_width (s ∷ ss) = or_width (stage_width s) (stages_width ss)

abbrev pub bits_or_64 : Option ℕ → ℕ
bits_or_64 None = 64
bits_or_64 (Some bits) = bits

abbrev pub width : List Stage → ℕ
width stages = bits_or_64 (stages_width stages)

-- One function

-- a function behind passes, and its failure where one failed
pub record Ran : Type 0 where
  pub func : Op
  pub failed : Option Failure

abbrev pub ran_on : Op → (Op → Ran) → ℕ → ℕ → PassName → Result Op Unlegalised → Ran
ran_on f next function position pass (Ok g) = next g
ran_on f next function position pass (Err e) = record { func = f; failed = Some (failure function position pass e) }

-- Passes in order, from that position on, up to the first that fails; then the function is as before that pass. `new` has
-- the new numbers of each pass.
abbrev pub passes_run : (ℕ → Supply) → ℕ → ℕ → ℕ → List PassUse → Op → Ran
passes_run new bits function position [] f = record { func = f; failed = None }
passes_run new bits function position (u ∷ us) f =
    ran_on f (passes_run new bits function (position + 1) us) function position u.pass (pass_tree u.pass bits (new position) f)

-- One stage

-- functions behind a stage, and its failures in the order of the functions
pub record Stood : Type 0 where
  pub funcs : List Op
  pub failures : List Failure

abbrev pub failure_list : Option Failure → List Failure
failure_list None = []
failure_list (Some e) = e ∷ []

abbrev pub with_ran : Ran → Stood → Stood
with_ran r s = record { funcs = r.func ∷ s.funcs; failures = failure_list r.failed ++ s.failures }

abbrev pub anchor_name : Anchor → List ℕ
anchor_name FuncFunc = codes "func.func"
anchor_name LlvmFunc = codes "llvm.func"

-- each function that is to be run, from the k-th on; `new` has the new numbers of each function and pass
abbrev pub functions_run : (ℕ → ℕ → Supply) → ℕ → (Op → Bool) → List PassUse → ℕ → List Op → Stood
functions_run new bits runs uses k [] = record { funcs = []; failures = [] }
functions_run new bits runs uses k (f ∷ fs) =
    with_ran (if runs f then passes_run (new k) bits k 0 uses f else record { func = f; failed = None }) (functions_run new bits runs uses (k + 1) fs)

abbrev pub is_empty : {A : Type 0} → List A → Bool
is_empty [] = true
is_empty (x ∷ xs) = false

-- a pass on every function: where none fails its step on the module follows, where one fails all functions keep their trees
abbrev pub whole_of : PassName → List Op → Stood → Stood
whole_of pass before s = if is_empty s.failures then record { funcs = module_step pass s.funcs; failures = [] } else record { funcs = before; failures = s.failures }

abbrev pub stage_run : (ℕ → ℕ → Supply) → ℕ → Stage → List Op → Stood
stage_run new bits (Whole u) funcs = whole_of u.pass funcs (functions_run new bits (λ f. true) (u ∷ []) 0 funcs)
stage_run new bits (Each anchor uses) funcs = functions_run new bits (λ f. bytes_eq (name_of f) (anchor_name anchor)) uses 0 funcs

-- Stages

-- what follows a stage without failures
abbrev pub stage_then : Stood → (List Op → Stood) → Stood
stage_then s next = if is_empty s.failures then next s.funcs else s

-- stages from the n-th on, up to the first with a failure; `new` has the new numbers of each stage, function and pass
abbrev pub stages_run : (ℕ → ℕ → ℕ → Supply) → ℕ → ℕ → List Stage → List Op → Stood
stages_run new bits n [] funcs = record { funcs = funcs; failures = [] }
stages_run new bits n (s ∷ ss) funcs = stage_then (stage_run (new n) bits s funcs) (stages_run new bits (n + 1) ss)

-- what a pipeline makes of a module: the module, and the failures
pub record Folded : Type 0 where
  pub module_behind : PlainModule
  pub failures : List Failure

abbrev pub folded_stages : (ℕ → ℕ → ℕ → Supply) → List Stage → PlainModule → Folded
folded_stages new stages m =
    let s : Stood = stages_run new (width stages) 0 stages m.funcs in
    record { module_behind = record { props = m.props; attrs = m.attrs; funcs = s.funcs }; failures = s.failures }

abbrev pub folded : (ℕ → ℕ → ℕ → Supply) → Pipeline → PlainModule → Folded
folded new p m = folded_stages new p.stages m

-- a pipeline fails where a function fails
abbrev pub is_success : Folded → Bool
is_success f = is_empty f.failures
