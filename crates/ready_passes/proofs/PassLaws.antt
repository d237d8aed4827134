-- Passes by their places, and the passes of a pipeline.
use Rattle.std.proofs.Common.{◌≡◌, ℕ, ◌+◌, ◌≤◌, ◌<◌, Bool, true, false, List, [], ◌∷◌, ◌++◌, length, get_or, drop, refl, sym, ap, ◌∙◌, add-one, append_assoc, drop-cons}
use Rattle.std.specs.Prelude.{◌==◌, cond, if◌then◌else◌}
use Rattle.std.proofs.lemmas.List.{append-nil, drop_all}
use Rattle.pipeline_text.specs.declared.pass.PassName.{PassName}
use Rattle.pipeline_text.specs.declared.pass.PassName.TheVariants.{ConvertScfToCf, ArithExpand, ConvertArithToLlvm, ConvertCfToLlvm, ConvertFuncToLlvm, FinalizeMemrefToLlvm, ReconcileUnrealizedCasts, FullConvertToLlvm}
use Rattle.pipeline_text.specs.declared.pass.Stage.{Stage}
use Rattle.ready_passes.specs.Used.{conversions, is_used, pass_number, used_of}

-- the pass at a place of the table
pass_at : ℕ → PassName
pass_at n =
    if n == 0 then ConvertScfToCf else if n == 1 then ArithExpand else if n == 2 then ConvertArithToLlvm else if n == 3 then ConvertCfToLlvm
    else if n == 4 then ConvertFuncToLlvm else if n == 5 then FinalizeMemrefToLlvm else if n == 6 then ReconcileUnrealizedCasts else FullConvertToLlvm

at_place : (p : PassName) → pass_at (pass_number p) ≡ p
unfolding pass_at
at_place ConvertScfToCf = refl
at_place ArithExpand = refl
at_place ConvertArithToLlvm = refl
at_place ConvertCfToLlvm = refl
at_place ConvertFuncToLlvm = refl
at_place FinalizeMemrefToLlvm = refl
at_place ReconcileUnrealizedCasts = refl
at_place FullConvertToLlvm = refl

-- passes of one place are one
pub one_place : (p q : PassName) → pass_number p ≡ pass_number q → p ≡ q
one_place p q e = sym (at_place p) ∙ ap pass_at e ∙ at_place q

-- Passes of a pipeline

used_cons : (stages : List Stage) (p : PassName) (ps : List PassName) → used_of stages (p ∷ ps) ≡ used_of stages (p ∷ []) ++ used_of stages ps
used_cons stages p ps = by (is_used p stages)
  where
    by : (b : Bool) → cond b (p ∷ used_of stages ps) (used_of stages ps) ≡ cond b (p ∷ []) [] ++ used_of stages ps
    by true = refl
    by false = refl

-- one pass more
pub next_used : (stages : List Stage) (all done next : List PassName) (i : ℕ) (d : PassName) → i < length all → next ≡ done ++ used_of stages (get_or all i d ∷ [])
    → done ++ used_of stages (drop i all) ≡ used_of stages all → next ++ used_of stages (drop (i + 1) all) ≡ used_of stages all
next_used stages all done next i d lt is so_far =
    let e : used_of stages (drop i all) ≡ used_of stages (get_or all i d ∷ []) ++ used_of stages (drop (i + 1) all) =
    ap (used_of stages) (drop-cons all i d lt ∙ ap (λ n. get_or all i d ∷ drop n all) (sym (add-one i))) ∙ used_cons stages (get_or all i d) (drop (i + 1) all) in
    ap (λ xs. xs ++ used_of stages (drop (i + 1) all)) is ∙ append_assoc done (used_of stages (get_or all i d ∷ [])) (used_of stages (drop (i + 1) all)) ∙ ap (λ xs. done ++ xs) (sym e) ∙ so_far

-- at the end
pub all_used : (stages whole : List Stage) (all done : List PassName) (i : ℕ) → stages ≡ whole → all ≡ conversions → length all ≤ i
    → done ++ used_of stages (drop i all) ≡ used_of stages all → done ≡ used_of whole conversions
all_used stages whole all done i same are end so_far =
    let e : used_of stages (drop i all) ≡ [] = ap (used_of stages) (drop_all i all end) in
    sym (append-nil done) ∙ ap (λ xs. done ++ xs) (sym e) ∙ so_far ∙ ap (λ ss. used_of ss all) same ∙ ap (used_of whole) are
