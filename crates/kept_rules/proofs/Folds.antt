-- The fold of a pipeline keeps a module verified.
use Rattle.std.proofs.Common.{◌≡◌, ℕ, ◌+◌, Bool, true, false, List, [], ◌∷◌, ◌++◌, None, refl, sym, ap, ◌∙◌, subst, map}
use Rattle.std.specs.Prelude.{Result, Ok, Err, if◌then◌else◌}
use Rattle.std.specs.List.{list_all}
use Rattle.std.specs.Str.{bytes_eq}
use Rattle.pipeline_text.specs.declared.pass.PassName.{PassName}
use Rattle.pipeline_text.specs.declared.pass.PassName.TheVariants.{ArithExpand, ConvertArithToLlvm, ConvertCfToLlvm, ReconcileUnrealizedCasts}
use Rattle.pipeline_text.specs.declared.pass.PassUse.{PassUse}
use Rattle.pipeline_text.specs.declared.pass.Stage.{Stage}
use Rattle.pipeline_text.specs.declared.pass.Stage.TheVariants.{Whole, Each}
use Rattle.plain_tree.specs.Ops.{Op, PlainModule}
use Rattle.rule_model.specs.Words.{AllOf}
use Rattle.rule_model.specs.Facts.{declared, functions, Functions}
use Rattle.rule_model.specs.Formed.{are_formed_entries, is_formed_function}
use Rattle.rule_model.specs.Rules.{SoundFrom, SoundFunction, Verified}
use Rattle.rule_model.proofs.Numbers.{and_first, and_second}
use Rattle.conversion_model.specs.Conversion.{Supply, Unlegalised}
use Rattle.conversion_model.specs.Targets.{name_of}
use Rattle.pattern_model.specs.PassTable.{pass_tree}
use Rattle.pattern_model.specs.ModuleStep.{module_step}
use Rattle.pattern_model.specs.Fold.{anchor_name, Failure, functions_run, is_empty, passes_run, Ran, ran_on, stage_run, stages_run, Stood, whole_of, width}
use Rattle.fitting_rows.specs.Widths.{IsWidth}
use Rattle.fold_model.specs.FreshFolds.{FreshFunctions, FreshPasses, FreshStage, FreshStages}
use Rattle.kept_rules.specs.Promises.{FoldKeepsVerified, IsKept, KeptStage, with_funcs}
use Rattle.kept_rules.proofs.BranchPass.{cf_kept}
use Rattle.line_rules.proofs.KeptSites.{Parts, parts_of, sound_by}
use Rattle.kept_rules.proofs.Modules.{FunctionKept, Kept, one_more, same_functions}
use Rattle.kept_rules.proofs.Reconciles.{casts_kept, then_kept}
use Rattle.line_rules.proofs.SameTypes.{and_true}
use Rattle.kept_rules.proofs.StraightLaws.{arith_kept, expand_kept}

-- a function behind passes
abbrev Follows : Op → Op → Type 0
Follows f g = (c : Functions) → is_formed_function f ≡ true → Parts c f → Kept c f g

abbrev stood_with : List Op → List Failure → Stood
stood_with funcs failures = record { funcs = funcs; failures = failures }

abbrev stood_by : Bool → Stood → Stood → Stood
stood_by b x y = if b then x else y

abbrev ran_by : Bool → Ran → Ran → Ran
ran_by b x y = if b then x else y

-- functions in order
abbrev Behind : List Op → List Op → Type 0
Behind [] [] = Unit {0}
Behind (f ∷ fs) (g ∷ gs) = Follows f g × Behind fs gs
Behind _ _ = ⊥

itself : (f : Op) → Follows f f
itself f c formed parts = record { formed = formed; parts = parts; declared_same = refl }

all_itself : (fs : List Op) → Behind fs fs
all_itself [] = tt
all_itself (f ∷ fs) = (itself f, all_itself fs)

both : (fs gs hs : List Op) → Behind fs gs → Behind gs hs → Behind fs hs
both [] [] [] a b = tt
both (f ∷ fs) (g ∷ gs) (h ∷ hs) a b = (λ c formed parts. let k = a.0 c formed parts in then_kept c f g h k (b.0 c k.formed k.parts), both fs gs hs a.1 b.1)
both [] [] (h ∷ hs) a b = absurd b
both [] (g ∷ gs) hs a b = absurd a
both (f ∷ fs) [] hs a b = absurd a
both (f ∷ fs) (g ∷ gs) [] a b = absurd b

-- From functions to modules

behind_declared : (all fs gs earlier : List Op) → Behind fs gs → SoundFrom all earlier fs → list_all is_formed_function fs ≡ true → map declared gs ≡ map declared fs
behind_declared all [] [] earlier a sound formed = refl
behind_declared all (f ∷ fs) (g ∷ gs) earlier a sound formed =
    let k = a.0 (functions all earlier) (and_first (is_formed_function f) _ formed) (parts_of (functions all earlier) f sound.0) in
    ap (λ x. x ∷ map declared gs) k.declared_same ∙ ap (λ l. declared f ∷ l) (behind_declared all fs gs (earlier ++ f ∷ []) a.1 sound.1 (and_second (is_formed_function f) _ formed))
behind_declared all [] (g ∷ gs) earlier a sound formed = absurd a
behind_declared all (f ∷ fs) [] earlier a sound formed = absurd a

behind_sound : (all others before after fs gs : List Op) → map declared others ≡ map declared all → map declared after ≡ map declared before → Behind fs gs → SoundFrom all before fs → list_all is_formed_function fs ≡ true
    → SoundFrom others after gs × (list_all is_formed_function gs ≡ true)
behind_sound all others before after [] [] x y a sound formed = (tt, refl)
behind_sound all others before after (f ∷ fs) (g ∷ gs) x y a sound formed =
    let k = a.0 (functions all before) (and_first (is_formed_function f) _ formed) (parts_of (functions all before) f sound.0) in
    let rest = behind_sound all others (before ++ f ∷ []) (after ++ g ∷ []) fs gs x (one_more after before g f y k.declared_same) a.1 sound.1 (and_second (is_formed_function f) _ formed) in
    ((subst (λ c. SoundFunction c g) (sym (same_functions all others before after x y)) (sound_by (functions all before) g k.parts), rest.0), and_true (is_formed_function g) _ k.formed rest.1)
behind_sound all others before after [] (g ∷ gs) x y a sound formed = absurd a
behind_sound all others before after (f ∷ fs) [] x y a sound formed = absurd a

behind_verified : (m : PlainModule) (funcs : List Op) → Behind m.funcs funcs → Verified m → Verified (with_funcs m funcs)
behind_verified m funcs a v =
    let formed = and_second (are_formed_entries m.attrs) _ (and_second (are_formed_entries m.props) _ v.0) in
    let all = behind_sound m.funcs funcs [] [] m.funcs funcs (behind_declared m.funcs m.funcs funcs [] a v.1 formed) refl a v.1 formed in (
      and_true (are_formed_entries m.props) _ (and_first (are_formed_entries m.props) _ v.0)
          (and_true (are_formed_entries m.attrs) _ (and_first (are_formed_entries m.attrs) _ (and_second (are_formed_entries m.props) _ v.0)) all.1),
      all.0,
    )

-- Passes

kept_pass : (name : PassName) (bits : ℕ) → IsWidth bits → IsKept name → FunctionKept name bits
kept_pass ArithExpand bits w k = expand_kept bits w
kept_pass ConvertArithToLlvm bits w k = arith_kept bits w
kept_pass ConvertCfToLlvm bits w k = cf_kept bits w
kept_pass ReconcileUnrealizedCasts bits w k = casts_kept bits w
kept_pass _ bits w k = absurd k

no_step : (name : PassName) (funcs : List Op) → IsKept name → module_step name funcs ≡ funcs
no_step ArithExpand funcs k = refl
no_step ConvertArithToLlvm funcs k = refl
no_step ConvertCfToLlvm funcs k = refl
no_step ReconcileUnrealizedCasts funcs k = refl
no_step _ funcs k = absurd k

passes_follow : (new : ℕ → Supply) (bits function position : ℕ) (us : List PassUse) (f : Op) → IsWidth bits → AllOf (λ (u : PassUse). IsKept u.pass) us → FreshPasses new bits position us f → Follows f (passes_run new bits function position us f).func
passes_follow new bits function position [] f w all fresh = itself f
passes_follow new bits function position (u ∷ us) f w all fresh = go (pass_tree u.pass bits (new position) f) refl (λ g e. passes_follow new bits function (position + 1) us g w all.1 (fresh.1 g e))
  where
    go : (x : Result Op Unlegalised) → pass_tree u.pass bits (new position) f ≡ x → ((g : Op) → pass_tree u.pass bits (new position) f ≡ Ok g → Follows g (passes_run new bits function (position + 1) us g).func)
        → Follows f (ran_on f (passes_run new bits function (position + 1) us) function position u.pass x).func
    go (Ok g) e rest = λ c formed parts.
        let k = kept_pass u.pass bits w all.0 (new position) c f g fresh.0 formed parts e in
        then_kept c f g (passes_run new bits function (position + 1) us g).func k (rest g e c k.formed k.parts)
    go (Err x) e rest = itself f

if_follows : (b : Bool) (f : Op) (r : Ran) → (b ≡ true → Follows f r.func) → Follows f (ran_by b r (record { func = f; failed = None })).func
if_follows true f r a = a refl
if_follows false f r a = itself f

functions_follow : (new : ℕ → ℕ → Supply) (bits : ℕ) (runs : Op → Bool) (us : List PassUse) (k : ℕ) (fs : List Op) → IsWidth bits → AllOf (λ (u : PassUse). IsKept u.pass) us → FreshFunctions new bits runs us k fs → Behind fs (functions_run new bits runs us k fs).funcs
functions_follow new bits runs us k [] w all fresh = tt
functions_follow new bits runs us k (f ∷ fs) w all fresh =
    (if_follows (runs f) f (passes_run (new k) bits k 0 us f) (λ is. passes_follow (new k) bits k 0 us f w all (fresh.0 is)), functions_follow new bits runs us (k + 1) fs w all fresh.1)

whole_follows : (name : PassName) (funcs : List Op) (s : Stood) → IsKept name → Behind funcs s.funcs → Behind funcs (whole_of name funcs s).funcs
whole_follows name funcs s k a = go (is_empty s.failures)
  where
    go : (b : Bool) → Behind funcs (stood_by b (stood_with (module_step name s.funcs) []) (stood_with funcs s.failures)).funcs
    go true = subst (Behind funcs) (sym (no_step name s.funcs k)) a
    go false = all_itself funcs

stage_follows : (new : ℕ → ℕ → Supply) (bits : ℕ) (s : Stage) (funcs : List Op) → IsWidth bits → KeptStage s → FreshStage new bits s funcs → Behind funcs (stage_run new bits s funcs).funcs
stage_follows new bits (Whole u) funcs w k fresh = whole_follows u.pass funcs (functions_run new bits (λ f. true) (u ∷ []) 0 funcs) k (functions_follow new bits (λ f. true) (u ∷ []) 0 funcs w (k, tt) fresh)
stage_follows new bits (Each anchor us) funcs w k fresh = functions_follow new bits (λ f. bytes_eq (name_of f) (anchor_name anchor)) us 0 funcs w k fresh

stages_follow : (new : ℕ → ℕ → ℕ → Supply) (bits n : ℕ) (ss : List Stage) (funcs : List Op) → IsWidth bits → AllOf KeptStage ss → FreshStages new bits n ss funcs → Behind funcs (stages_run new bits n ss funcs).funcs
stages_follow new bits n [] funcs w all fresh = all_itself funcs
stages_follow new bits n (s ∷ ss) funcs w all fresh =
    let first : Behind funcs (stage_run (new n) bits s funcs).funcs = stage_follows (new n) bits s funcs w all.0 fresh.0 in
    go (stage_run (new n) bits s funcs) (is_empty (stage_run (new n) bits s funcs).failures) first (λ good. both funcs (stage_run (new n) bits s funcs).funcs (stages_run new bits (n + 1) ss (stage_run (new n) bits s funcs).funcs).funcs first
    (stages_follow new bits (n + 1) ss (stage_run (new n) bits s funcs).funcs w all.1 (fresh.1 good)))
  where
    go : (x : Stood) (b : Bool) → Behind funcs x.funcs → (b ≡ true → Behind funcs (stages_run new bits (n + 1) ss x.funcs).funcs) → Behind funcs (stood_by b (stages_run new bits (n + 1) ss x.funcs) x).funcs
    go x true a c = c refl
    go x false a c = a

pub fold_verified : FoldKeepsVerified
fold_verified new p m w all fresh v = behind_verified m (stages_run new (width p.stages) 0 p.stages m.funcs).funcs (stages_follow new (width p.stages) 0 p.stages m.funcs w all fresh) v
