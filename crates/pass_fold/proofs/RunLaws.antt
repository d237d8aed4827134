-- Steps of runs, over plain variables.
use Rattle.std.proofs.Common.{◌≡◌, ℕ, ◌+◌, Bool, true, false, List, [], ◌∷◌, ◌++◌, refl, sym, ap, ◌∙◌, subst, map, append_assoc, length, get_or, drop, drop-cons, add-one, ◌<◌, ◌≤◌}
use Rattle.std.specs.Prelude.{Some, None, Result, Ok, Err, if◌then◌else◌, ◌↔◌}
use Rattle.std.specs.Bool.{IsTrue}
use Rattle.std.proofs.lemmas.Bool.{false≢true}
use Rattle.std.proofs.lemmas.List.{append-nil, drop_all}
use Rattle.pattern_model.specs.ModuleStep.{module_step}
use Rattle.tree_model.specs.declared.op_tree.OpTree.{OpTree}
use Rattle.tree_model.specs.declared.op_tree.FuncTree.{FuncTree}
use Rattle.tree_model.specs.declared.op_tree.ModuleTree.{ModuleTree}
use Rattle.plain_tree.specs.Attrs.{Entries, plain_entries}
use Rattle.plain_tree.specs.Ops.{Op, plain_func, plain_module, plain_op}
use Rattle.pipeline_text.specs.declared.pass.Anchor.{Anchor}
use Rattle.pipeline_text.specs.declared.pass.PassUse.{PassUse}
use Rattle.pipeline_text.specs.declared.pass.Pipeline.{Pipeline}
use Rattle.pipeline_text.specs.declared.pass.Stage.{Stage}
use Rattle.pipeline_text.specs.declared.pass.Stage.TheVariants.{Whole, Each}
use Rattle.pattern_model.specs.Fold.{Failure, Ran, Stood, failure_list, is_empty, width, with_ran}
use Rattle.fold_model.specs.FreshFolds.{IsFold}
use Rattle.fold_model.specs.Runs.{FunctionsRun, no_functions, one_function, PassesRun, all_ran, one_ran, one_failed, StageRuns, whole, each, StagesRun, no_stages, goes_on, stops}
use Rattle.fold_model.proofs.Joined.{runs_are_folds}
use Rattle.pass_fold.specs.declared.failure.FailureTree.{FailureTree}
use Rattle.pass_fold.specs.Makes.{PassMakes}
use Rattle.pass_fold.specs.Views.{failure_view, folded_view, runs_at}
use Rattle.pass_fold.specs.Steps.{Fails, RunsLast, StepIs, joined, with_last}
use Rattle.pass_fold.specs.Whole.{StageIs, stood_as}

-- Passes

abbrev pub Onward : ℕ → ℕ → ℕ → List PassUse → Op → List PassUse → Op → Type 0
Onward bits k q rest now us f = (r : Ran) → PassesRun bits k q rest now r → PassesRun bits k 0 us f r

pub pass_goes_on : (bits k q : ℕ) (u : PassUse) (rest us : List PassUse) (f now g : Op) → PassMakes u.pass bits now (Ok g) → Onward bits k q (u ∷ rest) now us f → Onward bits k (q + 1) rest g us f
pass_goes_on bits k q u rest us f now g m h r run = h r (one_ran m.new q u rest now g r m.fresh m.is run)

pub pass_fails : (bits k q : ℕ) (u : PassUse) (rest us : List PassUse) (f now : Op) (e : Failure) → Fails u.pass bits k q now e → Onward bits k q (u ∷ rest) now us f
    → PassesRun bits k 0 us f (record { func = now; failed = Some e })
pass_fails bits k q u rest us f now e m h =
    h (record { func = now; failed = Some e }) (subst (λ x. PassesRun bits k q (u ∷ rest) now (record { func = now; failed = Some x })) (sym m.says) (one_failed m.makes.new q u rest now m.at m.makes.fresh m.makes.is))

pub passes_end : (bits k q : ℕ) (us : List PassUse) (f now : Op) → Onward bits k q [] now us f → PassesRun bits k 0 us f (record { func = now; failed = None })
passes_end bits k q us f now h = h (record { func = now; failed = None }) (all_ran q now)

-- at a place of a list of passes

next_of : {A : Type 0} (xs : List A) (i : ℕ) (d : A) → i < length xs → drop i xs ≡ get_or xs i d ∷ drop (i + 1) xs
next_of xs i d h = rw (add-one, drop-cons xs i d)

pub ok_step : (bits k q : ℕ) (d : PassUse) (us : List PassUse) (f now there : Op) (g : OpTree) (r : Result OpTree FailureTree) → q < length us → StepIs (get_or us q d).pass bits k q there r → r ≡ Ok g → there ≡ now
    → Onward bits k q (drop q us) now us f → Onward bits k (q + 1) (drop (q + 1) us) (plain_op g) us f
ok_step bits k q d us f now there g r h st ok same inv =
    let st' : StepIs (get_or us q d).pass bits k q now r = subst (λ x. StepIs (get_or us q d).pass bits k q x r) same st in
    pass_goes_on bits k q (get_or us q d) (drop (q + 1) us) us f now (plain_op g) (subst (StepIs (get_or us q d).pass bits k q now) ok st')
    (subst (λ xs. Onward bits k q xs now us f) (next_of us q d h) inv)

pub err_step : (bits k q : ℕ) (d : PassUse) (us : List PassUse) (f now there : Op) (e : FailureTree) (r : Result OpTree FailureTree) → q < length us → StepIs (get_or us q d).pass bits k q there r → r ≡ Err e → there ≡ now
    → Onward bits k q (drop q us) now us f → PassesRun bits k 0 us f (record { func = now; failed = Some (failure_view e) })
err_step bits k q d us f now there e r h st err same inv =
    let st' : StepIs (get_or us q d).pass bits k q now r = subst (λ x. StepIs (get_or us q d).pass bits k q x r) same st in
    pass_fails bits k q (get_or us q d) (drop (q + 1) us) us f now (failure_view e) (subst (StepIs (get_or us q d).pass bits k q now) err st')
    (subst (λ xs. Onward bits k q xs now us f) (next_of us q d h) inv)

pub end_step : (bits k q : ℕ) (us : List PassUse) (f now : Op) → length us ≤ q → Onward bits k q (drop q us) now us f → PassesRun bits k 0 us f (record { func = now; failed = None })
end_step bits k q us f now h inv = passes_end bits k q us f now (subst (λ xs. Onward bits k q xs now us f) (drop_all q us h) inv)

-- Functions

abbrev pub Further : ℕ → (Op → Bool) → List PassUse → ℕ → List Op → Stood → List Op → Type 0
Further bits runs us k rest done all = (s : Stood) → FunctionsRun bits runs us k rest s → FunctionsRun bits runs us 0 all (joined done s)

joined_last : (done : Stood) (r : Ran) (s : Stood) → joined done (with_ran r s) ≡ joined (with_last done r) s
joined_last done r s =
    ap (λ fs. record { funcs = fs; failures = done.failures ++ (failure_list r.failed ++ s.failures) }) (sym (append_assoc done.funcs (r.func ∷ []) s.funcs))
    ∙ ap (λ es. record { funcs = (done.funcs ++ r.func ∷ []) ++ s.funcs; failures = es }) (sym (append_assoc done.failures (failure_list r.failed) s.failures))

pub function_goes_on : (bits : ℕ) (runs : Op → Bool) (us : List PassUse) (k : ℕ) (f : Op) (rest all : List Op) (done now : Stood) → RunsLast (runs f) bits k us f done now
    → Further bits runs us k (f ∷ rest) done all → Further bits runs us (k + 1) rest now all
function_goes_on bits runs us k f rest all done now t h s run =
    subst (λ x. FunctionsRun bits runs us 0 all (joined x s)) (sym t.is)
    (subst (FunctionsRun bits runs us 0 all) (joined_last done t.ran s) (h (with_ran t.ran s) (one_function k f rest t.ran s t.run run)))

pub functions_end : (bits : ℕ) (runs : Op → Bool) (us : List PassUse) (k : ℕ) (all : List Op) (done : Stood) → Further bits runs us k [] done all → FunctionsRun bits runs us 0 all done
functions_end bits runs us k all done h =
    subst (FunctionsRun bits runs us 0 all)
    (ap (λ fs. record { funcs = fs; failures = done.failures ++ [] }) (append-nil done.funcs) ∙ ap (λ es. record { funcs = done.funcs; failures = es }) (append-nil done.failures))
    (h (record { funcs = []; failures = [] }) (no_functions k))

pub function_step : (bits : ℕ) (runs : Op → Bool) (us : List PassUse) (k : ℕ) (d : FuncTree) (fs : List FuncTree) (done now : Stood) → k < length fs → RunsLast (runs (plain_func (get_or fs k d))) bits k us (plain_func (get_or fs k d)) done now
    → Further bits runs us k (map plain_func (drop k fs)) done (map plain_func fs) → Further bits runs us (k + 1) (map plain_func (drop (k + 1) fs)) now (map plain_func fs)
function_step bits runs us k d fs done now h t inv =
    function_goes_on bits runs us k (plain_func (get_or fs k d)) (map plain_func (drop (k + 1) fs)) (map plain_func fs) done now t
    (subst (λ xs. Further bits runs us k (map plain_func xs) done (map plain_func fs)) (next_of fs k d h) inv)

pub functions_stop : (bits : ℕ) (runs : Op → Bool) (us : List PassUse) (k : ℕ) (fs : List FuncTree) (done : Stood) → length fs ≤ k → Further bits runs us k (map plain_func (drop k fs)) done (map plain_func fs)
    → FunctionsRun bits runs us 0 (map plain_func fs) done
functions_stop bits runs us k fs done h inv = functions_end bits runs us k (map plain_func fs) done (subst (λ xs. Further bits runs us k (map plain_func xs) done (map plain_func fs)) (drop_all k fs h) inv)

-- Stages

-- whether failures are none, by a test
pub some_failed : (es : List FailureTree) (b : Bool) → (IsTrue b ↔ (es ≡ [])) → b ≡ false → is_empty (map failure_view es) ≡ false
some_failed [] b same off = absurd (false≢true (sym off ∙ same.1 refl))
some_failed (e ∷ es) b same off = refl

pub none_failed : (es : List FailureTree) (b : Bool) → (IsTrue b ↔ (es ≡ [])) → b ≡ true → es ≡ []
none_failed es b same on = same.0 on

pub whole_kept : (bits : ℕ) (u : PassUse) (old mid : ModuleTree) (failures : List FailureTree) → FunctionsRun bits (λ f. true) (u ∷ []) 0 (map plain_func old.funcs) (stood_as mid failures) → is_empty (map failure_view failures) ≡ false
    → StageIs bits (Whole u) old old failures
whole_kept bits u old mid failures run some = record {
  runs = subst (StageRuns bits (Whole u) (map plain_func old.funcs))
      (ap (λ b. if b then record { funcs = module_step u.pass (map plain_func mid.funcs); failures = [] } else stood_as old failures) some)
      (whole u (map plain_func old.funcs) (stood_as mid failures) run);
  props = refl;
  attrs = refl;
}

pub whole_done : (bits : ℕ) (u : PassUse) (old mid new : ModuleTree) (failures : List FailureTree) → FunctionsRun bits (λ f. true) (u ∷ []) 0 (map plain_func old.funcs) (stood_as mid failures) → failures ≡ []
    → map plain_func new.funcs ≡ module_step u.pass (map plain_func mid.funcs) → new.props ≡ old.props → new.attrs ≡ old.attrs → StageIs bits (Whole u) old new failures
whole_done bits u old mid new failures run none is props attrs =
    subst (StageIs bits (Whole u) old new) (sym none)
    (record {
      runs = subst (λ fs. StageRuns bits (Whole u) (map plain_func old.funcs) (record { funcs = fs; failures = [] })) (sym is)
          (whole u (map plain_func old.funcs) (stood_as mid []) (subst (λ es. FunctionsRun bits (λ f. true) (u ∷ []) 0 (map plain_func old.funcs) (stood_as mid es)) none run));
      props = props;
      attrs = attrs;
    })

pub each_done : (bits : ℕ) (anchor : Anchor) (us : List PassUse) (old new : ModuleTree) (failures : List FailureTree) → FunctionsRun bits (runs_at (Some anchor)) us 0 (map plain_func old.funcs) (stood_as new failures)
    → new.props ≡ old.props → new.attrs ≡ old.attrs → StageIs bits (Each anchor us) old new failures
each_done bits anchor us old new failures run props attrs = record { runs = each anchor us (map plain_func old.funcs) (stood_as new failures) run; props = props; attrs = attrs }

abbrev pub Later : ℕ → List Stage → ModuleTree → List Stage → ModuleTree → Type 0
Later bits rest now all old = (s : Stood) → StagesRun bits rest (map plain_func now.funcs) s → StagesRun bits all (map plain_func old.funcs) s

-- a module so far, and what follows
pub record SoFar (bits : ℕ) (rest : List Stage) (now : ModuleTree) (all : List Stage) (old : ModuleTree) : Type 0 where
  pub later : Later bits rest now all old
  pub props : now.props ≡ old.props
  pub attrs : now.attrs ≡ old.attrs

pub stage_goes_on : (bits : ℕ) (stage : Stage) (rest all : List Stage) (old now next : ModuleTree) → StageIs bits stage now next [] → SoFar bits (stage ∷ rest) now all old → SoFar bits rest next all old
stage_goes_on bits stage rest all old now next t h = record {
  later = λ s run. h.later s (goes_on stage rest (map plain_func now.funcs) (stood_as next []) s t.runs refl run);
  props = t.props ∙ h.props;
  attrs = t.attrs ∙ h.attrs;
}

pub later_step : (bits : ℕ) (ss : List Stage) (i : ℕ) (d : Stage) (old now next : ModuleTree) (failures : List FailureTree) → i < length ss → StageIs bits (get_or ss i d) now next failures → failures ≡ []
    → SoFar bits (drop i ss) now ss old → SoFar bits (drop (i + 1) ss) next ss old
later_step bits ss i d old now next failures h t none inv =
    stage_goes_on bits (get_or ss i d) (drop (i + 1) ss) ss old now next (subst (StageIs bits (get_or ss i d) now next) none t) (subst (λ xs. SoFar bits xs now ss old) (next_of ss i d h) inv)

as_folded : (p : Pipeline) (old now : ModuleTree) (failures : List FailureTree) → StagesRun (width p.stages) p.stages (map plain_func old.funcs) (stood_as now failures) → now.props ≡ old.props → now.attrs ≡ old.attrs
    → IsFold p (plain_module old) (folded_view (record { module_behind = now; failures = failures }))
as_folded p old now failures run props attrs =
    subst (IsFold p (plain_module old))
    (ap (λ (x : Entries). record { module_behind = record { props = x; attrs = plain_entries old.attrs; funcs = map plain_func now.funcs }; failures = map failure_view failures }) (ap plain_entries (sym props))
    ∙ ap (λ (x : Entries). record { module_behind = record { props = plain_entries now.props; attrs = x; funcs = map plain_func now.funcs }; failures = map failure_view failures }) (ap plain_entries (sym attrs)))
    (runs_are_folds p (plain_module old) (stood_as now failures) run)

pub stage_stops : (p : Pipeline) (stage : Stage) (rest : List Stage) (old now next : ModuleTree) (failures : List FailureTree) → StageIs (width p.stages) stage now next failures → is_empty (map failure_view failures) ≡ false
    → SoFar (width p.stages) (stage ∷ rest) now p.stages old → IsFold p (plain_module old) (folded_view (record { module_behind = next; failures = failures }))
stage_stops p stage rest old now next failures t some h =
    as_folded p old next failures (h.later (stood_as next failures) (stops stage rest (map plain_func now.funcs) (stood_as next failures) t.runs some)) (t.props ∙ h.props) (t.attrs ∙ h.attrs)

pub stages_end : (p : Pipeline) (old now : ModuleTree) → SoFar (width p.stages) [] now p.stages old → IsFold p (plain_module old) (folded_view (record { module_behind = now; failures = [] }))
stages_end p old now h = as_folded p old now [] (h.later (stood_as now []) (no_stages (map plain_func now.funcs))) h.props h.attrs

-- what is so far of a pipeline's stages at its width
as_pipeline : (p : Pipeline) (bits : ℕ) (ss rest : List Stage) (now old : ModuleTree) → bits ≡ width ss → ss ≡ p.stages → SoFar bits rest now ss old → SoFar (width p.stages) rest now p.stages old
as_pipeline p bits ss rest now old wide same h = subst (λ xs. SoFar (width xs) rest now xs old) same (subst (λ n. SoFar n rest now ss old) wide h)

pub last_step : (p : Pipeline) (bits : ℕ) (ss : List Stage) (i : ℕ) (d : Stage) (old now next : ModuleTree) (failures : List FailureTree) → bits ≡ width ss → ss ≡ p.stages → i < length ss → StageIs bits (get_or ss i d) now next failures
    → is_empty (map failure_view failures) ≡ false → SoFar bits (drop i ss) now ss old → IsFold p (plain_module old) (folded_view (record { module_behind = next; failures = failures }))
last_step p bits ss i d old now next failures wide same h t some inv =
    stage_stops p (get_or ss i d) (drop (i + 1) ss) old now next failures (subst (λ n. StageIs n (get_or ss i d) now next failures) (wide ∙ ap width same) t) some
    (as_pipeline p bits ss (get_or ss i d ∷ drop (i + 1) ss) now old wide same (subst (λ xs. SoFar bits xs now ss old) (next_of ss i d h) inv))

pub no_more : (p : Pipeline) (bits : ℕ) (ss : List Stage) (i : ℕ) (old now : ModuleTree) (failures : List FailureTree) → bits ≡ width ss → ss ≡ p.stages → length ss ≤ i → failures ≡ [] → SoFar bits (drop i ss) now ss old
    → IsFold p (plain_module old) (folded_view (record { module_behind = now; failures = failures }))
no_more p bits ss i old now failures wide same h none inv =
    subst (λ es. IsFold p (plain_module old) (folded_view (record { module_behind = now; failures = es }))) (sym none)
    (stages_end p old now (as_pipeline p bits ss [] now old wide same (subst (λ xs. SoFar bits xs now ss old) (drop_all i ss h) inv)))
