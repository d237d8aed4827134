-- The failures of a fold are in the order of the functions.
use Rattle.std.proofs.Common.{◌≡◌, ℕ, ◌+◌, ◌≤◌, Bool, true, false, List, [], ◌∷◌, ◌++◌, refl, sym, ap, subst, ◌∙◌, arith}
use Rattle.std.specs.Prelude.{Option, Some, None, Result, Ok, Err, ⊤, if◌then◌else◌}
use Rattle.std.specs.Str.{bytes_eq}
use Rattle.pipeline_text.specs.declared.pass.PassName.{PassName}
use Rattle.pipeline_text.specs.declared.pass.PassUse.{PassUse}
use Rattle.pipeline_text.specs.declared.pass.Pipeline.{Pipeline}
use Rattle.pipeline_text.specs.declared.pass.Stage.{Stage}
use Rattle.pipeline_text.specs.declared.pass.Stage.TheVariants.{Whole, Each}
use Rattle.plain_tree.specs.Ops.{Op, PlainModule}
use Rattle.conversion_model.specs.Targets.{name_of}
use Rattle.conversion_model.specs.Conversion.{Supply, Unlegalised}
use Rattle.pattern_model.specs.PassTable.{pass_tree}
use Rattle.pattern_model.specs.ModuleStep.{module_step}
use Rattle.pattern_model.specs.Fold.{Failure, Folded, Ran, Stood, anchor_name, failure_list, folded, functions_run, is_empty, passes_run, ran_on, stage_run, stage_then, stages_run, whole_of, width}
use Rattle.fold_model.specs.FreshFolds.{IsFold}
use Rattle.lowered_module.specs.Rising.{AreRising}

-- a failure, where there is one, is of this function
abbrev IsOf : ℕ → Option Failure → Type 0
IsOf k None = ⊤
IsOf k (Some e) = e.function ≡ k

ran_of : (f : Op) (next : Op → Ran) (k position : ℕ) (pass : PassName) (r : Result Op Unlegalised) → ((g : Op) → IsOf k (next g).failed) → IsOf k (ran_on f next k position pass r).failed
ran_of f next k position pass (Ok g) rest = rest g
ran_of f next k position pass (Err e) rest = refl

passes_of : (new : ℕ → Supply) (bits k position : ℕ) (us : List PassUse) (f : Op) → IsOf k (passes_run new bits k position us f).failed
passes_of new bits k position [] f = tt
passes_of new bits k position (u ∷ us) f =
    ran_of f (passes_run new bits k (position + 1) us) k position u.pass (pass_tree u.pass bits (new position) f) (λ g. passes_of new bits k (position + 1) us g)

function_of : (b : Bool) (k : ℕ) (f : Op) (r : Ran) → IsOf k r.failed → IsOf k (if b then r else record { func = f; failed = None }).failed
function_of true k f r is = is
function_of false k f r is = tt

from_before : (j k : ℕ) (es : List Failure) → j ≤ k → AreRising k es → AreRising j es
from_before j k [] low up = tt
from_before j k (e ∷ es) low up = (omega (arith, up.0), up.1)

behind_one : (k : ℕ) (o : Option Failure) (es : List Failure) → IsOf k o → AreRising (k + 1) es → AreRising k (failure_list o ++ es)
behind_one k None es is up = from_before k (k + 1) es (omega arith) up
behind_one k (Some e) es is up = (omega (arith, is), subst (λ n. AreRising (n + 1) es) (sym is) up)

functions_rise : (new : ℕ → ℕ → Supply) (bits : ℕ) (runs : Op → Bool) (us : List PassUse) (k : ℕ) (fs : List Op) → AreRising k (functions_run new bits runs us k fs).failures
functions_rise new bits runs us k [] = tt
functions_rise new bits runs us k (f ∷ fs) =
    behind_one k _ (functions_run new bits runs us (k + 1) fs).failures
    (function_of (runs f) k f (passes_run (new k) bits k 0 us f) (passes_of (new k) bits k 0 us f))
    (functions_rise new bits runs us (k + 1) fs)

then_rises : (b : Bool) (s r : Stood) → AreRising 0 s.failures → AreRising 0 r.failures → AreRising 0 (if b then r else s).failures
then_rises true s r here rest = rest
then_rises false s r here rest = here

whole_rises : (pass : PassName) (before : List Op) (s : Stood) → AreRising 0 s.failures → AreRising 0 (whole_of pass before s).failures
whole_rises pass before s up = then_rises (is_empty s.failures) (record { funcs = before; failures = s.failures }) (record { funcs = module_step pass s.funcs; failures = [] }) up tt

stage_rises : (new : ℕ → ℕ → Supply) (bits : ℕ) (s : Stage) (funcs : List Op) → AreRising 0 (stage_run new bits s funcs).failures
stage_rises new bits (Whole u) funcs = whole_rises u.pass funcs _ (functions_rise new bits (λ f. true) (u ∷ []) 0 funcs)
stage_rises new bits (Each anchor us) funcs = functions_rise new bits (λ f. bytes_eq (name_of f) (anchor_name anchor)) us 0 funcs

stages_rise : (new : ℕ → ℕ → ℕ → Supply) (bits n : ℕ) (ss : List Stage) (funcs : List Op) → AreRising 0 (stages_run new bits n ss funcs).failures
stages_rise new bits n [] funcs = tt
stages_rise new bits n (s ∷ ss) funcs =
    let t : Stood = stage_run (new n) bits s funcs in
    then_rises (is_empty t.failures) t (stages_run new bits (n + 1) ss t.funcs) (stage_rises (new n) bits s funcs) (stages_rise new bits (n + 1) ss t.funcs)

pub folds_rise : (p : Pipeline) (m : PlainModule) (f : Folded) → IsFold p m f → AreRising 0 f.failures
folds_rise p m f is = subst (λ (r : Folded). AreRising 0 r.failures) is.is (stages_rise is.new (width p.stages) 0 p.stages m.funcs)
