-- Folds that are the same but for numbers.
use Rattle.std.proofs.Common.{◌≡◌, ℕ, ◌+◌, Bool, true, false, List, [], ◌∷◌, ◌++◌, map, refl, sym, ap, subst, ◌∙◌}
use Rattle.std.specs.Prelude.{◌&&◌, ◌||◌, not, Option, Some, None, Result, Ok, Err, if◌then◌else◌, codes}
use Rattle.std.specs.List.{list_any}
use Rattle.std.specs.Str.{bytes_eq}
use Rattle.std.proofs.lemmas.Bool.{false≢true}
use Rattle.pipeline_text.specs.declared.pass.PassName.{PassName}
use Rattle.pipeline_text.specs.declared.pass.PassName.TheVariants.{ConvertScfToCf, ArithExpand, ConvertArithToLlvm, ConvertCfToLlvm, ConvertFuncToLlvm, FinalizeMemrefToLlvm, ReconcileUnrealizedCasts, FullConvertToLlvm}
use Rattle.pipeline_text.specs.declared.pass.PassUse.{PassUse}
use Rattle.pipeline_text.specs.declared.pass.Pipeline.{Pipeline}
use Rattle.pipeline_text.specs.declared.pass.Stage.{Stage}
use Rattle.pipeline_text.specs.declared.pass.Stage.TheVariants.{Whole, Each}
use Rattle.plain_tree.specs.Types.{PlainType, LlvmFunc, Ptr, Void, Int, types_in}
use Rattle.plain_tree.specs.Attrs.{entry}
use Rattle.plain_tree.specs.Ops.{Op, PlainModule}
use Rattle.conversion_model.specs.Targets.{name_of}
use Rattle.conversion_model.specs.Uses.{operations}
use Rattle.conversion_model.specs.Conversion.{Supply, Unlegalised}
use Rattle.conversion_model.specs.Renamings.{RenOp, ren_op}
use Rattle.conversion_model.proofs.RenamedUses.{RenListed, listed_ended, more_listed, operations_ren}
use Rattle.pattern_model.specs.ModuleStep.{allocators_declared, calls, declaration, declared, is_called, is_text, is_there, module_step, props_of}
use Rattle.pattern_model.specs.PassTable.{pass_tree}
use Rattle.pattern_model.specs.Fold.{Failure, Folded, Ran, Stood, anchor_name, failure_list, folded, functions_run, is_empty, passes_run, ran_on, stage_run, stage_then, stages_run, whole_of, width, with_ran}
use Rattle.fold_model.specs.FreshFolds.{FreshFunctions, FreshPasses, FreshStage, FreshStages, IsFold}
use Rattle.fold_renames.specs.Outcomes.{OneOutcome, SameOutcome, kind_in}
use Rattle.fold_renames.proofs.FreshRenames.{Alike, AlikeAnswers, alike_self, fail_alike, made_alike, pass_alike}

-- One function

record RanAlike (r s : Ran) : Type 1 where
  func : Alike r.func s.func
  failed : r.failed ≡ s.failed

ran_alike : (f g : Op) (next after : Op → Ran) (k position : ℕ) (pass : PassName) (x y : Result Op Unlegalised) → Alike f g → AlikeAnswers x y
    → ((h i : Op) → x ≡ Ok h → y ≡ Ok i → Alike h i → RanAlike (next h) (after i)) → RanAlike (ran_on f next k position pass x) (ran_on g after k position pass y)
ran_alike f g next after k position pass x y a (fail_alike e) rest = record { func = a; failed = refl }
ran_alike f g next after k position pass x y a (made_alike h i b) rest = rest h i refl refl b

passes_alike : (new other : ℕ → Supply) (bits k position : ℕ) (us : List PassUse) (f g : Op) → FreshPasses new bits position us f → FreshPasses other bits position us g → Alike f g
    → RanAlike (passes_run new bits k position us f) (passes_run other bits k position us g)
passes_alike new other bits k position [] f g here there a = record { func = a; failed = refl }
passes_alike new other bits k position (u ∷ us) f g here there a =
    ran_alike f g (passes_run new bits k (position + 1) us) (passes_run other bits k (position + 1) us) k position u.pass
    (pass_tree u.pass bits (new position) f) (pass_tree u.pass bits (other position) g) a
    (pass_alike u.pass bits (new position) (other position) f g here.0 there.0 a)
    (λ h i e d b. passes_alike new other bits k (position + 1) us h i (here.1 h e) (there.1 i d) b)

-- Functions

pub data AllAlike : List Op → List Op → Type 1 where
  none_alike : AllAlike [] []
  more_alike : (f g : Op) (fs gs : List Op) → Alike f g → AllAlike fs gs → AllAlike (f ∷ fs) (g ∷ gs)

all_self : (fs : List Op) → AllAlike fs fs
all_self [] = none_alike
all_self (f ∷ fs) = more_alike f f fs fs (alike_self f) (all_self fs)

record StoodAlike (s t : Stood) : Type 1 where
  funcs : AllAlike s.funcs t.funcs
  failures : s.failures ≡ t.failures

-- a test that looks at no numbers
abbrev Agrees : (Op → Bool) → Type 1
Agrees runs = (f g : Op) → Alike f g → runs f ≡ runs g

one_alike : (b c : Bool) (r s : Ran) (f g : Op) → b ≡ c → (b ≡ true → c ≡ true → RanAlike r s) → Alike f g → RanAlike (if b then r else record { func = f; failed = None }) (if c then s else record { func = g; failed = None })
one_alike true true r s f g e run a = run refl refl
one_alike true false r s f g e run a = absurd (false≢true (sym e))
one_alike false true r s f g e run a = absurd (false≢true e)
one_alike false false r s f g e run a = record { func = a; failed = refl }

with_alike : (r s : Ran) (t u : Stood) → RanAlike r s → StoodAlike t u → StoodAlike (with_ran r t) (with_ran s u)
with_alike r s t u one rest = record {
  funcs = more_alike r.func s.func t.funcs u.funcs one.func rest.funcs;
  failures = ap (λ o. failure_list o ++ t.failures) one.failed ∙ ap (λ es. failure_list s.failed ++ es) rest.failures;
}

functions_alike : (new other : ℕ → ℕ → Supply) (bits : ℕ) (runs : Op → Bool) (us : List PassUse) (k : ℕ) (fs gs : List Op) → Agrees runs
    → FreshFunctions new bits runs us k fs → FreshFunctions other bits runs us k gs → AllAlike fs gs → StoodAlike (functions_run new bits runs us k fs) (functions_run other bits runs us k gs)
functions_alike new other bits runs us k fs gs agrees here there none_alike = record { funcs = none_alike; failures = refl }
functions_alike new other bits runs us k fs gs agrees here there (more_alike f g fs' gs' a rest) =
    with_alike _ _ (functions_run new bits runs us (k + 1) fs') (functions_run other bits runs us (k + 1) gs')
    (one_alike (runs f) (runs g) (passes_run (new k) bits k 0 us f) (passes_run (other k) bits k 0 us g) f g (agrees f g a)
    (λ e d. passes_alike (new k) (other k) bits k 0 us f g (here.0 e) (there.0 d) a) a)
    (functions_alike new other bits runs us (k + 1) fs' gs' agrees here.1 there.1 rest)

-- The step on the module

kind_by : {R L : ℕ → ℕ → Type 0} {f g : Op} → RenOp R L f g → kind_in f ≡ kind_in g
kind_by (ren_op vs os rs ls) = refl

calls_by : {R L : ℕ → ℕ → Type 0} {f g : Op} (name : List ℕ) → RenOp R L f g → calls name f ≡ calls name g
calls_by name (ren_op vs os rs ls) = refl

props_by : {R L : ℕ → ℕ → Type 0} {f g : Op} → RenOp R L f g → props_of f ≡ props_of g
props_by (ren_op vs os rs ls) = refl

name_by : {R L : ℕ → ℕ → Type 0} {f g : Op} → RenOp R L f g → name_of f ≡ name_of g
name_by (ren_op vs os rs ls) = refl

any_calls : {R L : ℕ → ℕ → Type 0} {os ps : List (ℕ × Op)} (name : List ℕ) → RenListed R L os ps → list_any (λ (o : ℕ × Op). calls name o.1) os ≡ list_any (λ (o : ℕ × Op). calls name o.1) ps
any_calls name listed_ended = refl
any_calls name (more_listed {o = o} {p = p} {os = os} r rest) = ap (λ b. b || list_any (λ (o : ℕ × Op). calls name o.1) os) (calls_by name r) ∙ ap (λ b. calls name p || b) (any_calls name rest)

called_alike : (name : List ℕ) (fs gs : List Op) → AllAlike fs gs → is_called name fs ≡ is_called name gs
called_alike name fs gs none_alike = refl
called_alike name fs gs (more_alike f g fs' gs' a rest) =
    ap (λ b. b || is_called name fs') (any_calls name (operations_ren a.same)) ∙ ap (λ b. list_any (λ (o : ℕ × Op). calls name o.1) (operations g) || b) (called_alike name fs' gs' rest)

there_alike : (name : List ℕ) (fs gs : List Op) → AllAlike fs gs → is_there name fs ≡ is_there name gs
there_alike name fs gs none_alike = refl
there_alike name fs gs (more_alike f g fs' gs' a rest) =
    ap (λ ps. is_text name (entry (codes "sym_name") ps) || is_there name fs') (props_by a.same) ∙ ap (λ b. is_text name (entry (codes "sym_name") (props_of g)) || b) (there_alike name fs' gs' rest)

behind_alike : (fs gs hs : List Op) → AllAlike fs gs → AllAlike (fs ++ hs) (gs ++ hs)
behind_alike fs gs hs none_alike = all_self hs
behind_alike fs gs hs (more_alike f g fs' gs' a rest) = more_alike f g (fs' ++ hs) (gs' ++ hs) a (behind_alike fs' gs' hs rest)

either_alike : (b c : Bool) (fs gs hs is : List Op) → b ≡ c → AllAlike fs gs → AllAlike hs is → AllAlike (if b then fs else hs) (if c then gs else is)
either_alike true true fs gs hs is e a b = a
either_alike true false fs gs hs is e a b = absurd (false≢true (sym e))
either_alike false true fs gs hs is e a b = absurd (false≢true e)
either_alike false false fs gs hs is e a b = b

declared_alike : (name : List ℕ) (t : PlainType) (fs gs : List Op) → AllAlike fs gs → AllAlike (declared name t fs) (declared name t gs)
declared_alike name t fs gs a =
    either_alike (is_called name fs && not (is_there name fs)) (is_called name gs && not (is_there name gs)) (fs ++ declaration name t ∷ []) (gs ++ declaration name t ∷ []) fs gs
    (ap (λ b. b && not (is_there name fs)) (called_alike name fs gs a) ∙ ap (λ b. is_called name gs && not b) (there_alike name fs gs a))
    (behind_alike fs gs (declaration name t ∷ []) a) a

allocators_alike : (fs gs : List Op) → AllAlike fs gs → AllAlike (allocators_declared fs) (allocators_declared gs)
allocators_alike fs gs a = declared_alike _ _ _ _ (declared_alike _ _ _ _ (declared_alike _ _ fs gs a))

step_alike : (pass : PassName) (fs gs : List Op) → AllAlike fs gs → AllAlike (module_step pass fs) (module_step pass gs)
step_alike FinalizeMemrefToLlvm fs gs a = allocators_alike fs gs a
step_alike FullConvertToLlvm fs gs a = allocators_alike fs gs a
step_alike ConvertScfToCf fs gs a = a
step_alike ArithExpand fs gs a = a
step_alike ConvertArithToLlvm fs gs a = a
step_alike ConvertCfToLlvm fs gs a = a
step_alike ConvertFuncToLlvm fs gs a = a
step_alike ReconcileUnrealizedCasts fs gs a = a

-- Stages

chosen_alike : (b c : Bool) (r s t u : Stood) → b ≡ c → StoodAlike r s → StoodAlike t u → StoodAlike (if b then r else t) (if c then s else u)
chosen_alike true true r s t u e a b = a
chosen_alike true false r s t u e a b = absurd (false≢true (sym e))
chosen_alike false true r s t u e a b = absurd (false≢true e)
chosen_alike false false r s t u e a b = b

whole_alike : (pass : PassName) (fs gs : List Op) (s t : Stood) → AllAlike fs gs → StoodAlike s t → StoodAlike (whole_of pass fs s) (whole_of pass gs t)
whole_alike pass fs gs s t a b =
    chosen_alike (is_empty s.failures) (is_empty t.failures)
    (record { funcs = module_step pass s.funcs; failures = [] }) (record { funcs = module_step pass t.funcs; failures = [] })
    (record { funcs = fs; failures = s.failures }) (record { funcs = gs; failures = t.failures })
    (ap is_empty b.failures)
    (record { funcs = step_alike pass s.funcs t.funcs b.funcs; failures = refl })
    (record { funcs = a; failures = b.failures })

stage_alike : (new other : ℕ → ℕ → Supply) (bits : ℕ) (s : Stage) (fs gs : List Op) → FreshStage new bits s fs → FreshStage other bits s gs → AllAlike fs gs
    → StoodAlike (stage_run new bits s fs) (stage_run other bits s gs)
stage_alike new other bits (Whole u) fs gs here there a = whole_alike u.pass fs gs _ _ a (functions_alike new other bits (λ f. true) (u ∷ []) 0 fs gs (λ f g b. refl) here there a)
stage_alike new other bits (Each anchor us) fs gs here there a =
    functions_alike new other bits (λ f. bytes_eq (name_of f) (anchor_name anchor)) us 0 fs gs (λ f g b. ap (λ n. bytes_eq n (anchor_name anchor)) (name_by b.same)) here there a

then_alike : (b c : Bool) (s t r u : Stood) → b ≡ c → StoodAlike s t → (b ≡ true → c ≡ true → StoodAlike r u) → StoodAlike (if b then r else s) (if c then u else t)
then_alike true true s t r u e a rest = rest refl refl
then_alike true false s t r u e a rest = absurd (false≢true (sym e))
then_alike false true s t r u e a rest = absurd (false≢true e)
then_alike false false s t r u e a rest = a

stages_alike : (new other : ℕ → ℕ → ℕ → Supply) (bits n : ℕ) (ss : List Stage) (fs gs : List Op) → FreshStages new bits n ss fs → FreshStages other bits n ss gs → AllAlike fs gs
    → StoodAlike (stages_run new bits n ss fs) (stages_run other bits n ss gs)
stages_alike new other bits n [] fs gs here there a = record { funcs = a; failures = refl }
stages_alike new other bits n (s ∷ ss) fs gs here there a =
    let t : Stood = stage_run (new n) bits s fs in
    let u : Stood = stage_run (other n) bits s gs in
    let both : StoodAlike t u = stage_alike (new n) (other n) bits s fs gs here.0 there.0 a in
    then_alike (is_empty t.failures) (is_empty u.failures) t u (stages_run new bits (n + 1) ss t.funcs) (stages_run other bits (n + 1) ss u.funcs) (ap is_empty both.failures) both
    (λ e d. stages_alike new other bits (n + 1) ss t.funcs u.funcs (here.1 e) (there.1 d) both.funcs)

-- Folds

pub record FoldsAlike (r s : Folded) : Type 1 where
  pub props : r.module_behind.props ≡ s.module_behind.props
  pub attrs : r.module_behind.attrs ≡ s.module_behind.attrs
  pub funcs : AllAlike r.module_behind.funcs s.module_behind.funcs
  pub failures : r.failures ≡ s.failures

pub folds_alike : (p : Pipeline) (m : PlainModule) (r s : Folded) → IsFold p m r → IsFold p m s → FoldsAlike r s
folds_alike p m r s here there =
    let both : StoodAlike (stages_run here.new (width p.stages) 0 p.stages m.funcs) (stages_run there.new (width p.stages) 0 p.stages m.funcs)
    = stages_alike here.new there.new (width p.stages) 0 p.stages m.funcs m.funcs here.fresh there.fresh (all_self m.funcs) in
    let first : FoldsAlike (folded here.new p m) (folded there.new p m) = record { props = refl; attrs = refl; funcs = both.funcs; failures = both.failures } in
    subst (λ x. FoldsAlike r x) there.is (subst (λ x. FoldsAlike x (folded there.new p m)) here.is first)

pub all_kinds : (fs gs : List Op) → AllAlike fs gs → map kind_in fs ≡ map kind_in gs
all_kinds fs gs none_alike = refl
all_kinds fs gs (more_alike f g fs' gs' a rest) = ap (λ k. k ∷ map kind_in fs') (kind_by a.same) ∙ ap (λ ks. kind_in g ∷ ks) (all_kinds fs' gs' rest)

pub one_outcome : OneOutcome
one_outcome p m r s here there =
    let both : FoldsAlike r s = folds_alike p m r s here there in
    record { failures = both.failures; props = both.props; attrs = both.attrs; kinds = all_kinds r.module_behind.funcs s.module_behind.funcs both.funcs }
