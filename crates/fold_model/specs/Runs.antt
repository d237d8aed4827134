-- The fold of a pipeline step by step: each pass on a function with some new numbers that are fresh for it.
use Rattle.std.specs.Prelude.{◌≡◌, ℕ, ◌+◌, Bool, true, false, List, [], ◌∷◌, Some, None, Ok, Err}
use Rattle.std.specs.Str.{bytes_eq}
use Rattle.pipeline_text.specs.declared.pass.PassUse.{PassUse}
use Rattle.pipeline_text.specs.declared.pass.Pipeline.{Pipeline}
use Rattle.pipeline_text.specs.declared.pass.Stage.{Stage}
use Rattle.pipeline_text.specs.declared.pass.Stage.TheVariants.{Whole, Each}
use Rattle.plain_tree.specs.Ops.{Op, PlainModule}
use Rattle.conversion_model.specs.Targets.{name_of}
use Rattle.conversion_model.specs.Conversion.{Supply, Unlegalised}
use Rattle.conversion_model.specs.Fresh.{Fresh}
use Rattle.pattern_model.specs.PassTable.{pass_tree}
use Rattle.pattern_model.specs.Fold.{Ran, Stood, anchor_name, failure, is_empty, whole_of, width, with_ran}
use Rattle.fold_model.specs.FreshFolds.{IsFold}

-- passes on a function, from that position on, up to the first that fails
pub data PassesRun (bits function : ℕ) : ℕ → List PassUse → Op → Ran → Type 0 where
  all_ran : (position : ℕ) (f : Op) → PassesRun bits function position [] f (record { func = f; failed = None })
  one_ran : (new : Supply) (position : ℕ) (u : PassUse) (us : List PassUse) (f g : Op) (r : Ran) → Fresh new f → pass_tree u.pass bits new f ≡ Ok g
      → PassesRun bits function (position + 1) us g r → PassesRun bits function position (u ∷ us) f r
  one_failed : (new : Supply) (position : ℕ) (u : PassUse) (us : List PassUse) (f : Op) (e : Unlegalised) → Fresh new f → pass_tree u.pass bits new f ≡ Err e
      → PassesRun bits function position (u ∷ us) f (record { func = f; failed = Some (failure function position u.pass e) })

-- passes on a function that is run; another one stays as it is
abbrev pub RunIf : Bool → ℕ → ℕ → List PassUse → Op → Ran → Type 0
RunIf true bits function us f r = PassesRun bits function 0 us f r
RunIf false bits function us f r = r ≡ record { func = f; failed = None }

-- functions from the k-th on
pub data FunctionsRun (bits : ℕ) (runs : Op → Bool) (us : List PassUse) : ℕ → List Op → Stood → Type 0 where
  no_functions : (k : ℕ) → FunctionsRun bits runs us k [] (record { funcs = []; failures = [] })
  one_function : (k : ℕ) (f : Op) (fs : List Op) (r : Ran) (s : Stood) → RunIf (runs f) bits k us f r → FunctionsRun bits runs us (k + 1) fs s
      → FunctionsRun bits runs us k (f ∷ fs) (with_ran r s)

-- a stage: a pass on every function with its step on the module, or passes on the functions of one name
pub data StageRuns (bits : ℕ) : Stage → List Op → Stood → Type 0 where
  whole : (u : PassUse) (funcs : List Op) (s : Stood) → FunctionsRun bits (λ f. true) (u ∷ []) 0 funcs s → StageRuns bits (Whole u) funcs (whole_of u.pass funcs s)
  each : (anchor : _) (us : List PassUse) (funcs : List Op) (s : Stood) → FunctionsRun bits (λ f. bytes_eq (name_of f) (anchor_name anchor)) us 0 funcs s → StageRuns bits (Each anchor us) funcs s

-- stages, up to the first with a failure
pub data StagesRun (bits : ℕ) : List Stage → List Op → Stood → Type 0 where
  no_stages : (funcs : List Op) → StagesRun bits [] funcs (record { funcs = funcs; failures = [] })
  goes_on : (s : Stage) (ss : List Stage) (funcs : List Op) (t r : Stood) → StageRuns bits s funcs t → is_empty t.failures ≡ true → StagesRun bits ss t.funcs r → StagesRun bits (s ∷ ss) funcs r
  stops : (s : Stage) (ss : List Stage) (funcs : List Op) (t : Stood) → StageRuns bits s funcs t → is_empty t.failures ≡ false → StagesRun bits (s ∷ ss) funcs t

-- what stood behind the stages is the fold
abbrev pub RunsAreFolds : Type 0
RunsAreFolds = (p : Pipeline) (m : PlainModule) (s : Stood) → StagesRun (width p.stages) p.stages m.funcs s
    → IsFold p m (record { module_behind = record { props = m.props; attrs = m.attrs; funcs = s.funcs }; failures = s.failures })
