-- A pipeline keeps the meaning: pass by pass, function by function, from one verified module to the next.
use Rattle.std.proofs.Common.{◌≡◌, ℕ, ◌+◌, Bool, true, false, List, [], ◌∷◌, ◌++◌, None, refl, sym, ap, subst}
use Rattle.std.specs.Prelude.{Result, Ok, Err, if◌then◌else◌}
use Rattle.std.specs.Str.{bytes_eq}
use Rattle.pipeline_text.specs.declared.pass.PassName.{PassName}
use Rattle.pipeline_text.specs.declared.pass.PassName.TheVariants.{ArithExpand, ConvertArithToLlvm, ConvertCfToLlvm, ReconcileUnrealizedCasts}
use Rattle.pipeline_text.specs.declared.pass.PassUse.{PassUse}
use Rattle.pipeline_text.specs.declared.pass.Stage.{Stage}
use Rattle.pipeline_text.specs.declared.pass.Stage.TheVariants.{Whole, Each}
use Rattle.plain_tree.specs.Ops.{Op, PlainModule}
use Rattle.rule_model.specs.Words.{AllOf}
use Rattle.rule_model.specs.Rules.{Verified}
use Rattle.conversion_model.specs.Conversion.{Supply, Unlegalised}
use Rattle.conversion_model.specs.Fresh.{Fresh}
use Rattle.conversion_model.specs.Targets.{name_of}
use Rattle.pattern_model.specs.PassTable.{pass_tree}
use Rattle.pattern_model.specs.ModuleStep.{module_step}
use Rattle.pattern_model.specs.Fold.{anchor_name, Failure, functions_run, is_empty, passes_run, Ran, ran_on, stage_run, stages_run, Stood, whole_of, width}
use Rattle.sound_model.specs.Agreement.{AgreesS}
use Rattle.sound_model.proofs.Agreeing.{agreements_join, agrees_with_itself}
use Rattle.fold_model.specs.FreshFolds.{FreshFunctions, FreshPasses, FreshStage, FreshStages}
use Rattle.kept_rules.specs.Promises.{IsKept, IsWidth, KeptStage, PassKeepsVerified, Replaced, none_replaced, left_so, made_so, with_funcs}
use Rattle.kept_rules.proofs.BranchPass.{cf_verified}
use Rattle.kept_rules.proofs.Reconciles.{casts_verified}
use Rattle.kept_rules.proofs.StraightLaws.{arith_verified, expand_verified}
use Rattle.pass_laws.specs.Promises.{KeepsMeaning, Passed, no_functions, stays, passes}
use Rattle.pass_laws.proofs.Meaning.{arith_keeps, cf_keeps, expand_keeps}
use Rattle.cast_laws.proofs.Pairs.{casts_keep}
use Rattle.fold_laws.specs.Promises.{FoldKeepsMeaning}

-- a verified module that agrees with the one before
record Better (bits : ℕ) (a b : PlainModule) : Type 0 where
  verified : Verified b
  agrees : AgreesS bits a b

itself : (bits : ℕ) (a : PlainModule) → Verified a → Better bits a a
itself bits a v = record { verified = v; agrees = agrees_with_itself bits a }

joined : (bits : ℕ) (a b c : PlainModule) → Better bits a b → Better bits b c → Better bits a c
joined bits a b c x y = record { verified = y.verified; agrees = agreements_join bits a b c x.agrees y.agrees }

-- One pass on one function

pass_verified : (name : PassName) → IsKept name → PassKeepsVerified name
pass_verified ArithExpand k = expand_verified
pass_verified ConvertArithToLlvm k = arith_verified
pass_verified ConvertCfToLlvm k = cf_verified
pass_verified ReconcileUnrealizedCasts k = casts_verified
pass_verified _ k = absurd k

pass_keeps : (name : PassName) → IsKept name → KeepsMeaning name
pass_keeps ArithExpand k = expand_keeps
pass_keeps ConvertArithToLlvm k = arith_keeps
pass_keeps ConvertCfToLlvm k = cf_keeps
pass_keeps ReconcileUnrealizedCasts k = casts_keep
pass_keeps _ k = absurd k

all_left : (name : PassName) (bits : ℕ) (fs : List Op) → Replaced name bits fs fs
all_left name bits [] = none_replaced
all_left name bits (f ∷ fs) = left_so f (all_left name bits fs)

all_stay : (name : PassName) (bits : ℕ) (fs : List Op) → Passed name bits fs fs
all_stay name bits [] = no_functions
all_stay name bits (f ∷ fs) = stays (all_stay name bits fs)

one_replaced : (name : PassName) (bits : ℕ) (before after : List Op) (new : Supply) (f g : Op) → Fresh new f → pass_tree name bits new f ≡ Ok g → Replaced name bits (before ++ f ∷ after) (before ++ g ∷ after)
one_replaced name bits [] after new f g fresh e = made_so new f g fresh e (all_left name bits after)
one_replaced name bits (b ∷ bs) after new f g fresh e = left_so b (one_replaced name bits bs after new f g fresh e)

one_passed : (name : PassName) (bits : ℕ) (before after : List Op) (new : Supply) (f g : Op) → Fresh new f → pass_tree name bits new f ≡ Ok g → Passed name bits (before ++ f ∷ after) (before ++ g ∷ after)
one_passed name bits [] after new f g fresh e = passes new fresh e (all_stay name bits after)
one_passed name bits (b ∷ bs) after new f g fresh e = stays (one_passed name bits bs after new f g fresh e)

one_pass : (m : PlainModule) (bits : ℕ) (name : PassName) (before after : List Op) (new : Supply) (f g : Op) → IsWidth bits → IsKept name → Fresh new f → pass_tree name bits new f ≡ Ok g
    → Verified (with_funcs m (before ++ f ∷ after)) → Better bits (with_funcs m (before ++ f ∷ after)) (with_funcs m (before ++ g ∷ after))
one_pass m bits name before after new f g w k fresh e v = record {
  verified = pass_verified name k bits (with_funcs m (before ++ f ∷ after)) (before ++ g ∷ after) w (one_replaced name bits before after new f g fresh e) v;
  agrees = pass_keeps name k bits w (with_funcs m (before ++ f ∷ after)) (before ++ g ∷ after) v (one_passed name bits before after new f g fresh e);
}

-- Passes on one function

passes_keep : (m : PlainModule) (new : ℕ → Supply) (bits function position : ℕ) (us : List PassUse) (before after : List Op) (f : Op) → IsWidth bits → AllOf (λ (u : PassUse). IsKept u.pass) us → FreshPasses new bits position us f
    → Verified (with_funcs m (before ++ f ∷ after)) → Better bits (with_funcs m (before ++ f ∷ after)) (with_funcs m (before ++ (passes_run new bits function position us f).func ∷ after))
passes_keep m new bits function position [] before after f w all fresh v = itself bits (with_funcs m (before ++ f ∷ after)) v
passes_keep m new bits function position (u ∷ us) before after f w all fresh v =
    go (pass_tree u.pass bits (new position) f) refl (λ g e. passes_keep m new bits function (position + 1) us before after g w all.1 (fresh.1 g e))
  where
    go : (x : Result Op Unlegalised) → pass_tree u.pass bits (new position) f ≡ x
        → ((g : Op) → pass_tree u.pass bits (new position) f ≡ Ok g → Verified (with_funcs m (before ++ g ∷ after))
        → Better bits (with_funcs m (before ++ g ∷ after)) (with_funcs m (before ++ (passes_run new bits function (position + 1) us g).func ∷ after)))
        → Better bits (with_funcs m (before ++ f ∷ after)) (with_funcs m (before ++ (ran_on f (passes_run new bits function (position + 1) us) function position u.pass x).func ∷ after))
    go (Ok g) e rest =
        let first : Better bits (with_funcs m (before ++ f ∷ after)) (with_funcs m (before ++ g ∷ after)) = one_pass m bits u.pass before after (new position) f g w all.0 fresh.0 e v in
        joined bits (with_funcs m (before ++ f ∷ after)) (with_funcs m (before ++ g ∷ after)) (with_funcs m (before ++ (passes_run new bits function (position + 1) us g).func ∷ after)) first (rest g e first.verified)
    go (Err x) e rest = itself bits (with_funcs m (before ++ f ∷ after)) v

-- One stage

abbrev ran_by : Bool → Ran → Ran → Ran
ran_by b x y = if b then x else y

if_keeps : (m : PlainModule) (bits : ℕ) (before after : List Op) (b : Bool) (f : Op) (r : Ran) → Verified (with_funcs m (before ++ f ∷ after)) → (b ≡ true → Better bits (with_funcs m (before ++ f ∷ after)) (with_funcs m (before ++ r.func ∷ after)))
    → Better bits (with_funcs m (before ++ f ∷ after)) (with_funcs m (before ++ (ran_by b r (record { func = f; failed = None })).func ∷ after))
if_keeps m bits before after true f r v a = a refl
if_keeps m bits before after false f r v a = itself bits (with_funcs m (before ++ f ∷ after)) v

at_the_seam : (before : List Op) (f : Op) (after : List Op) → (before ++ f ∷ []) ++ after ≡ before ++ f ∷ after
at_the_seam [] f after = refl
at_the_seam (b ∷ bs) f after = ap (λ fs. b ∷ fs) (at_the_seam bs f after)

functions_keep : (m : PlainModule) (new : ℕ → ℕ → Supply) (bits : ℕ) (runs : Op → Bool) (us : List PassUse) (k : ℕ) (before fs : List Op) → IsWidth bits → AllOf (λ (u : PassUse). IsKept u.pass) us → FreshFunctions new bits runs us k fs
    → Verified (with_funcs m (before ++ fs)) → Better bits (with_funcs m (before ++ fs)) (with_funcs m (before ++ (functions_run new bits runs us k fs).funcs))
functions_keep m new bits runs us k before [] w all fresh v = itself bits (with_funcs m (before ++ [])) v
functions_keep m new bits runs us k before (f ∷ fs) w all fresh v =
    let g : Op = (ran_by (runs f) (passes_run (new k) bits k 0 us f) (record { func = f; failed = None })).func in
    let after : List Op = (functions_run new bits runs us (k + 1) fs).funcs in
    let first : Better bits (with_funcs m (before ++ f ∷ fs)) (with_funcs m (before ++ g ∷ fs)) =
    if_keeps m bits before fs (runs f) f (passes_run (new k) bits k 0 us f) v (λ is. passes_keep m (new k) bits k 0 us before fs f w all (fresh.0 is) v) in
    let there : Verified (with_funcs m ((before ++ g ∷ []) ++ fs)) = subst (λ xs. Verified (with_funcs m xs)) (sym (at_the_seam before g fs)) first.verified in
    let rest : Better bits (with_funcs m ((before ++ g ∷ []) ++ fs)) (with_funcs m ((before ++ g ∷ []) ++ after)) = functions_keep m new bits runs us (k + 1) (before ++ g ∷ []) fs w all fresh.1 there in
    let from : Better bits (with_funcs m (before ++ g ∷ fs)) (with_funcs m ((before ++ g ∷ []) ++ after)) =
    subst (λ xs. Better bits (with_funcs m xs) (with_funcs m ((before ++ g ∷ []) ++ after))) (at_the_seam before g fs) rest in
    joined bits (with_funcs m (before ++ f ∷ fs)) (with_funcs m (before ++ g ∷ fs)) (with_funcs m (before ++ g ∷ after)) first
    (subst (λ xs. Better bits (with_funcs m (before ++ g ∷ fs)) (with_funcs m xs)) (at_the_seam before g after) from)

abbrev stood_with : List Op → List Failure → Stood
stood_with funcs failures = record { funcs = funcs; failures = failures }

abbrev stood_by : Bool → Stood → Stood → Stood
stood_by b x y = if b then x else y

no_step : (name : PassName) (funcs : List Op) → IsKept name → module_step name funcs ≡ funcs
no_step ArithExpand funcs k = refl
no_step ConvertArithToLlvm funcs k = refl
no_step ConvertCfToLlvm funcs k = refl
no_step ReconcileUnrealizedCasts funcs k = refl
no_step _ funcs k = absurd k

whole_keeps : (m : PlainModule) (bits : ℕ) (name : PassName) (funcs : List Op) (s : Stood) → IsKept name → Verified (with_funcs m funcs) → Better bits (with_funcs m funcs) (with_funcs m s.funcs)
    → Better bits (with_funcs m funcs) (with_funcs m (whole_of name funcs s).funcs)
whole_keeps m bits name funcs s k v a = go (is_empty s.failures)
  where
    go : (b : Bool) → Better bits (with_funcs m funcs) (with_funcs m (stood_by b (stood_with (module_step name s.funcs) []) (stood_with funcs s.failures)).funcs)
    go true = subst (λ xs. Better bits (with_funcs m funcs) (with_funcs m xs)) (sym (no_step name s.funcs k)) a
    go false = itself bits (with_funcs m funcs) v

stage_keeps : (m : PlainModule) (new : ℕ → ℕ → Supply) (bits : ℕ) (s : Stage) (funcs : List Op) → IsWidth bits → KeptStage s → FreshStage new bits s funcs → Verified (with_funcs m funcs)
    → Better bits (with_funcs m funcs) (with_funcs m (stage_run new bits s funcs).funcs)
stage_keeps m new bits (Whole u) funcs w k fresh v =
    whole_keeps m bits u.pass funcs (functions_run new bits (λ f. true) (u ∷ []) 0 funcs) k v (functions_keep m new bits (λ f. true) (u ∷ []) 0 [] funcs w (k, tt) fresh v)
stage_keeps m new bits (Each anchor us) funcs w k fresh v = functions_keep m new bits (λ f. bytes_eq (name_of f) (anchor_name anchor)) us 0 [] funcs w k fresh v

-- Stages

stages_keep : (m : PlainModule) (new : ℕ → ℕ → ℕ → Supply) (bits n : ℕ) (ss : List Stage) (funcs : List Op) → IsWidth bits → AllOf KeptStage ss → FreshStages new bits n ss funcs → Verified (with_funcs m funcs)
    → Better bits (with_funcs m funcs) (with_funcs m (stages_run new bits n ss funcs).funcs)
stages_keep m new bits n [] funcs w all fresh v = itself bits (with_funcs m funcs) v
stages_keep m new bits n (s ∷ ss) funcs w all fresh v =
    let first : Better bits (with_funcs m funcs) (with_funcs m (stage_run (new n) bits s funcs).funcs) = stage_keeps m (new n) bits s funcs w all.0 fresh.0 v in
    go (stage_run (new n) bits s funcs) (is_empty (stage_run (new n) bits s funcs).failures) first
    (λ good. joined bits (with_funcs m funcs) (with_funcs m (stage_run (new n) bits s funcs).funcs) (with_funcs m (stages_run new bits (n + 1) ss (stage_run (new n) bits s funcs).funcs).funcs) first
    (stages_keep m new bits (n + 1) ss (stage_run (new n) bits s funcs).funcs w all.1 (fresh.1 good) first.verified))
  where
    go : (x : Stood) (b : Bool) → Better bits (with_funcs m funcs) (with_funcs m x.funcs) → (b ≡ true → Better bits (with_funcs m funcs) (with_funcs m (stages_run new bits (n + 1) ss x.funcs).funcs))
        → Better bits (with_funcs m funcs) (with_funcs m (stood_by b (stages_run new bits (n + 1) ss x.funcs) x).funcs)
    go x true a c = c refl
    go x false a c = a

pub fold_keeps : FoldKeepsMeaning
fold_keeps new p m w all fresh v = (stages_keep m new (width p.stages) 0 p.stages m.funcs w all fresh v).agrees
