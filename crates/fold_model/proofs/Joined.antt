-- New numbers of single passes, functions and stages are joined to those of a whole fold.
use Rattle.std.proofs.Common.{◌≡◌, ℕ, ◌+◌, ◌≤◌, ◌==◌, Bool, true, false, List, [], ◌∷◌, refl, sym, ap, ◌∙◌, subst, arith}
use Rattle.std.proofs.lemmas.Bool.{false≢true}
use Rattle.std.proofs.lemmas.Bool.Decides.{nat_tests}
use Rattle.std.specs.Prelude.{Result, Ok, Err, None, if◌then◌else◌}
use Rattle.std.specs.Str.{bytes_eq}
use mathlib.Core.Path.{fun_ext}
use Rattle.pipeline_text.specs.declared.pass.PassUse.{PassUse}
use Rattle.pipeline_text.specs.declared.pass.Stage.{Stage}
use Rattle.plain_tree.specs.Ops.{Op}
use Rattle.conversion_model.specs.Targets.{name_of}
use Rattle.conversion_model.specs.Conversion.{Supply, Unlegalised}
use Rattle.conversion_model.specs.Fresh.{Fresh}
use Rattle.pattern_model.specs.PassTable.{pass_tree}
use Rattle.pattern_model.specs.Fold.{Ran, Stood, anchor_name, functions_run, is_empty, passes_run, ran_on, stage_run, stage_then, stages_run, whole_of, width, with_ran}
use Rattle.fold_model.specs.FreshFolds.{FreshFunctions, FreshPasses, FreshStage, FreshStages}
use Rattle.fold_model.specs.Runs.{FunctionsRun, no_functions, one_function, PassesRun, all_ran, one_ran, one_failed, RunIf, RunsAreFolds, StageRuns, whole, each, StagesRun, no_stages, goes_on, stops}

-- One more in front

-- x at a number, and at each other one what is there
abbrev put : {A : Type 0} → ℕ → A → (ℕ → A) → ℕ → A
put q x later p = if p == q then x else later p

eq_here : (q : ℕ) → (q == q) ≡ true
eq_here q = grind (arith, nat_tests)

eq_later : (q p : ℕ) → q + 1 ≤ p → (p == q) ≡ false
eq_later q p h = grind (arith, nat_tests)

put_here : {A : Type 0} (q : ℕ) (x : A) (later : ℕ → A) → put q x later q ≡ x
put_here q x later = ap (λ b. if b then x else later q) (eq_here q)

put_later : {A : Type 0} (q : ℕ) (x : A) (later : ℕ → A) (p : ℕ) → q + 1 ≤ p → put q x later p ≡ later p
put_later q x later p h = ap (λ b. if b then x else later p) (eq_later q p h)

-- the same from a number on
abbrev SameFrom : {A : Type 0} → ℕ → (ℕ → A) → (ℕ → A) → Type 0
SameFrom q a b = (p : ℕ) → q ≤ p → a p ≡ b p

from_next : {A : Type 0} (q : ℕ) (a b : ℕ → A) → SameFrom q a b → SameFrom (q + 1) a b
from_next q a b same p h = same p (omega arith)

here : {A : Type 0} (q : ℕ) (a b : ℕ → A) → SameFrom q a b → a q ≡ b q
here q a b same = same q (omega arith)

-- Passes

passes_same : (a b : ℕ → Supply) (bits function position : ℕ) (us : List PassUse) (f : Op) → SameFrom position a b → passes_run a bits function position us f ≡ passes_run b bits function position us f
passes_same a b bits function position [] f same = refl
passes_same a b bits function position (u ∷ us) f same =
    ap (λ n. ran_on f (passes_run a bits function (position + 1) us) function position u.pass (pass_tree u.pass bits n f)) (here position a b same)
    ∙ ap (λ next. ran_on f next function position u.pass (pass_tree u.pass bits (b position) f)) (fun_ext (λ g. passes_same a b bits function (position + 1) us g (from_next position a b same)))

fresh_same : (a b : ℕ → Supply) (bits position : ℕ) (us : List PassUse) (f : Op) → SameFrom position a b → FreshPasses a bits position us f → FreshPasses b bits position us f
fresh_same a b bits position [] f same fresh = tt
fresh_same a b bits position (u ∷ us) f same fresh =
    let at : a position ≡ b position = here position a b same in (
      subst (λ n. Fresh n f) at fresh.0,
      λ g e. fresh_same a b bits (position + 1) us g (from_next position a b same) (fresh.1 g (ap (λ n. pass_tree u.pass bits n f) at ∙ e)),
    )

record Passes (bits function position : ℕ) (us : List PassUse) (f : Op) (r : Ran) : Type 0 where
  new : ℕ → Supply
  fresh : FreshPasses new bits position us f
  is : passes_run new bits function position us f ≡ r

-- numbers for all
no_numbers : Supply
no_numbers = record { row = λ n. record { value = λ k. 0; label = λ k. 0 }; value = λ n piece k. 0; parameter = λ k. 0; argument = λ l k. 0 }

same_ok : (g h : Op) (x : Result Op Unlegalised) → x ≡ Ok g → x ≡ Ok h → g ≡ h
same_ok g h x e d = cc

not_both : (e : Unlegalised) (g : Op) (x : Result Op Unlegalised) → x ≡ Err e → x ≡ Ok g → ⊥
not_both e g x a b = cc

passes_joined : {bits function position : ℕ} {us : List PassUse} {f : Op} {r : Ran} → PassesRun bits function position us f r → Passes bits function position us f r
passes_joined (all_ran position f) = record { new = λ p. no_numbers; fresh = tt; is = refl }
passes_joined {bits} {function} (one_ran n position u us f g r fresh e rest) =
    let later : Passes bits function (position + 1) us g r = passes_joined rest in
    let new : ℕ → Supply = put position n later.new in
    let at : new position ≡ n = put_here position n later.new in
    let same : SameFrom (position + 1) later.new new = λ p h. sym (put_later position n later.new p h) in
    let tree : pass_tree u.pass bits (new position) f ≡ Ok g = ap (λ m. pass_tree u.pass bits m f) at ∙ e in
    record {
      new = new;
      fresh = (
        subst (λ m. Fresh m f) (sym at) fresh,
        λ h d. subst (λ x. FreshPasses new bits (position + 1) us x) (same_ok g h _ tree d) (fresh_same later.new new bits (position + 1) us g same later.fresh),
      );
      is = ap (λ x. ran_on f (passes_run new bits function (position + 1) us) function position u.pass x) tree ∙ sym (passes_same later.new new bits function (position + 1) us g same) ∙ later.is;
    }
passes_joined {bits} {function} (one_failed n position u us f e fresh is) = record {
  new = λ p. n;
  fresh = (fresh, λ h d. absurd (not_both e h _ is d));
  is = ap (λ x. ran_on f (passes_run (λ p. n) bits function (position + 1) us) function position u.pass x) is;
}

-- Functions

abbrev ran_if : Bool → Ran → Op → Ran
ran_if b r f = if b then r else record { func = f; failed = None }

functions_same : (a b : ℕ → ℕ → Supply) (bits : ℕ) (runs : Op → Bool) (us : List PassUse) (k : ℕ) (fs : List Op) → SameFrom k a b → functions_run a bits runs us k fs ≡ functions_run b bits runs us k fs
functions_same a b bits runs us k [] same = refl
functions_same a b bits runs us k (f ∷ fs) same =
    ap (λ n. with_ran (ran_if (runs f) (passes_run n bits k 0 us f) f) (functions_run a bits runs us (k + 1) fs)) (here k a b same)
    ∙ ap (with_ran (ran_if (runs f) (passes_run (b k) bits k 0 us f) f)) (functions_same a b bits runs us (k + 1) fs (from_next k a b same))

fresh_functions_same : (a b : ℕ → ℕ → Supply) (bits : ℕ) (runs : Op → Bool) (us : List PassUse) (k : ℕ) (fs : List Op) → SameFrom k a b → FreshFunctions a bits runs us k fs → FreshFunctions b bits runs us k fs
fresh_functions_same a b bits runs us k [] same fresh = tt
fresh_functions_same a b bits runs us k (f ∷ fs) same fresh =
    (subst (λ n. runs f ≡ true → FreshPasses n bits 0 us f) (here k a b same) fresh.0, fresh_functions_same a b bits runs us (k + 1) fs (from_next k a b same) fresh.1)

record OneFunction (b : Bool) (bits k : ℕ) (us : List PassUse) (f : Op) (r : Ran) : Type 0 where
  new : ℕ → Supply
  fresh : b ≡ true → FreshPasses new bits 0 us f
  is : ran_if b (passes_run new bits k 0 us f) f ≡ r

one_joined : (b : Bool) (bits k : ℕ) (us : List PassUse) (f : Op) (r : Ran) → RunIf b bits k us f r → OneFunction b bits k us f r
one_joined true bits k us f r run = let p : Passes bits k 0 us f r = passes_joined run in record { new = p.new; fresh = λ e. p.fresh; is = p.is }
one_joined false bits k us f r run = record { new = λ p. no_numbers; fresh = λ e. absurd (false≢true e); is = sym run }

record Functions (bits : ℕ) (runs : Op → Bool) (us : List PassUse) (k : ℕ) (fs : List Op) (s : Stood) : Type 0 where
  new : ℕ → ℕ → Supply
  fresh : FreshFunctions new bits runs us k fs
  is : functions_run new bits runs us k fs ≡ s

functions_joined : {bits : ℕ} {runs : Op → Bool} {us : List PassUse} {k : ℕ} {fs : List Op} {s : Stood} → FunctionsRun bits runs us k fs s → Functions bits runs us k fs s
functions_joined (no_functions k) = record { new = λ j p. no_numbers; fresh = tt; is = refl }
functions_joined {bits} {runs} {us} (one_function k f fs r s run rest) =
    let first : OneFunction (runs f) bits k us f r = one_joined (runs f) bits k us f r run in
    let later : Functions bits runs us (k + 1) fs s = functions_joined rest in
    let new : ℕ → ℕ → Supply = put k first.new later.new in
    let at : new k ≡ first.new = put_here k first.new later.new in
    let same : SameFrom (k + 1) later.new new = λ p h. sym (put_later k first.new later.new p h) in
    record {
      new = new;
      fresh = (subst (λ n. runs f ≡ true → FreshPasses n bits 0 us f) (sym at) first.fresh, fresh_functions_same later.new new bits runs us (k + 1) fs same later.fresh);
      is = ap (λ n. with_ran (ran_if (runs f) (passes_run n bits k 0 us f) f) (functions_run new bits runs us (k + 1) fs)) at
          ∙ ap (λ x. with_ran x (functions_run new bits runs us (k + 1) fs)) first.is
          ∙ ap (with_ran r) (sym (functions_same later.new new bits runs us (k + 1) fs same) ∙ later.is);
    }

-- Stages

record OneStage (bits : ℕ) (s : Stage) (funcs : List Op) (t : Stood) : Type 0 where
  new : ℕ → ℕ → Supply
  fresh : FreshStage new bits s funcs
  is : stage_run new bits s funcs ≡ t

stage_joined : {bits : ℕ} {s : Stage} {funcs : List Op} {t : Stood} → StageRuns bits s funcs t → OneStage bits s funcs t
stage_joined {bits} (whole u funcs s run) =
    let f : Functions bits (λ f. true) (u ∷ []) 0 funcs s = functions_joined run in
    record { new = f.new; fresh = f.fresh; is = ap (whole_of u.pass funcs) f.is }
stage_joined {bits} (each anchor us funcs s run) =
    let f : Functions bits (λ f. bytes_eq (name_of f) (anchor_name anchor)) us 0 funcs s = functions_joined run in
    record { new = f.new; fresh = f.fresh; is = f.is }

stages_same : (a b : ℕ → ℕ → ℕ → Supply) (bits n : ℕ) (ss : List Stage) (funcs : List Op) → SameFrom n a b → stages_run a bits n ss funcs ≡ stages_run b bits n ss funcs
stages_same a b bits n [] funcs same = refl
stages_same a b bits n (s ∷ ss) funcs same =
    ap (λ x. stage_then (stage_run x bits s funcs) (stages_run a bits (n + 1) ss)) (here n a b same)
    ∙ ap (stage_then (stage_run (b n) bits s funcs)) (fun_ext (λ fs. stages_same a b bits (n + 1) ss fs (from_next n a b same)))

fresh_stages_same : (a b : ℕ → ℕ → ℕ → Supply) (bits n : ℕ) (ss : List Stage) (funcs : List Op) → SameFrom n a b → FreshStages a bits n ss funcs → FreshStages b bits n ss funcs
fresh_stages_same a b bits n [] funcs same fresh = tt
fresh_stages_same a b bits n (s ∷ ss) funcs same fresh =
    let at : a n ≡ b n = here n a b same in (
      subst (λ x. FreshStage x bits s funcs) at fresh.0,
      λ good. subst (λ x. FreshStages b bits (n + 1) ss (stage_run x bits s funcs).funcs) at
          (fresh_stages_same a b bits (n + 1) ss (stage_run (a n) bits s funcs).funcs (from_next n a b same) (fresh.1 (ap (λ x. is_empty (stage_run x bits s funcs).failures) at ∙ good))),
    )

record Stages (bits n : ℕ) (ss : List Stage) (funcs : List Op) (r : Stood) : Type 0 where
  new : ℕ → ℕ → ℕ → Supply
  fresh : FreshStages new bits n ss funcs
  is : stages_run new bits n ss funcs ≡ r

then_on : (t : Stood) (next : List Op → Stood) → is_empty t.failures ≡ true → stage_then t next ≡ next t.funcs
then_on t next good = ap (λ b. if b then next t.funcs else t) good

then_stops : (t : Stood) (next : List Op → Stood) → is_empty t.failures ≡ false → stage_then t next ≡ t
then_stops t next bad = ap (λ b. if b then next t.funcs else t) bad

stages_joined : {bits : ℕ} {ss : List Stage} {funcs : List Op} {r : Stood} (n : ℕ) → StagesRun bits ss funcs r → Stages bits n ss funcs r
stages_joined n (no_stages funcs) = record { new = λ i j p. no_numbers; fresh = tt; is = refl }
stages_joined {bits} n (goes_on s ss funcs t r run good rest) =
    let first : OneStage bits s funcs t = stage_joined run in
    let later : Stages bits (n + 1) ss t.funcs r = stages_joined (n + 1) rest in
    let new : ℕ → ℕ → ℕ → Supply = put n first.new later.new in
    let at : new n ≡ first.new = put_here n first.new later.new in
    let same : SameFrom (n + 1) later.new new = λ p h. sym (put_later n first.new later.new p h) in
    let stood : stage_run (new n) bits s funcs ≡ t = ap (λ x. stage_run x bits s funcs) at ∙ first.is in
    record {
      new = new;
      fresh = (
        subst (λ x. FreshStage x bits s funcs) (sym at) first.fresh,
        λ e. subst (λ x. FreshStages new bits (n + 1) ss x.funcs) (sym stood) (fresh_stages_same later.new new bits (n + 1) ss t.funcs same later.fresh),
      );
      is = ap (λ x. stage_then x (stages_run new bits (n + 1) ss)) stood ∙ then_on t (stages_run new bits (n + 1) ss) good
          ∙ sym (stages_same later.new new bits (n + 1) ss t.funcs same) ∙ later.is;
    }
stages_joined {bits} n (stops s ss funcs t run bad) =
    let first : OneStage bits s funcs t = stage_joined run in
    let new : ℕ → ℕ → ℕ → Supply = λ i. first.new in
    record {
      new = new;
      fresh = (first.fresh, λ good. absurd (false≢true (sym bad ∙ ap (λ x. is_empty x.failures) (sym first.is) ∙ good)));
      is = ap (λ x. stage_then x (stages_run new bits (n + 1) ss)) first.is ∙ then_stops t (stages_run new bits (n + 1) ss) bad;
    }

pub runs_are_folds : RunsAreFolds
runs_are_folds p m s run =
    let t : Stages (width p.stages) 0 p.stages m.funcs s = stages_joined 0 run in
    record {
      new = t.new;
      fresh = t.fresh;
      is = ap (λ (x : Stood). record { module_behind = record { props = m.props; attrs = m.attrs; funcs = x.funcs }; failures = x.failures }) t.is;
    }
