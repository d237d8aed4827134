-- How many patterns have a root.
use Rattle.std.proofs.Common.{◌≡◌, ℕ, suc, ◌+◌, ◌≤◌, ◌<◌, Bool, true, false, List, [], ◌∷◌, ◌++◌, length, get_or, drop, map, refl, sym, ap, ◌∙◌, add-one, arith, drop-cons}
use Rattle.std.specs.Prelude.{if◌then◌else◌}
use Rattle.std.specs.Str.{bytes_eq}
use Rattle.conversion_model.specs.Rows.{Pattern}
use Rattle.conversion_model.specs.Chosen.{has_root}
use Rattle.pattern_model.specs.PassTable.{pass_of, patterns_of, patterns_with, root_count}
use Rattle.pass_rows.specs.declared.parts.Part.{Part}
use Rattle.pass_rows.specs.Parts.{patterns_at, patterns_in}
use Rattle.pipeline_text.specs.declared.pass.PassName.{PassName}
use Rattle.pipeline_text.specs.declared.pass.PassName.TheVariants.{ConvertScfToCf, ArithExpand, ConvertArithToLlvm, ConvertCfToLlvm, ConvertFuncToLlvm, FinalizeMemrefToLlvm, ReconcileUnrealizedCasts, FullConvertToLlvm}
use Rattle.std.proofs.lemmas.List.{drop_all}
use Rattle.ready_passes.specs.Roots.{count_of, roots_in}

one_more : (b : Bool) (m n : ℕ) → (if b then m + 1 else m) + n ≡ (if b then m + n + 1 else m + n)
one_more true m n = omega arith
one_more false m n = omega arith

pub count_joined : (name : List ℕ) (ps qs : List Pattern) → root_count name (ps ++ qs) ≡ root_count name ps + root_count name qs
count_joined name [] qs = omega arith
count_joined name (p ∷ ps) qs = ap (λ n. if has_root name p then n + 1 else n) (count_joined name ps qs) ∙ sym (one_more (has_root name p) (root_count name ps) (root_count name qs))

pub counts : (name : List ℕ) (ps : List Pattern) → count_of name (roots_in ps) ≡ root_count name ps
counts name [] = refl
counts name (p ∷ ps) = ap (λ n. if has_root name p then n + 1 else n) (counts name ps)

-- a part of a pass more
pub count_step : (name : List ℕ) (parts : List Part) (i count more total : ℕ) (d : Part) → i < length parts → more ≡ root_count name (patterns_in (get_or parts i d))
    → count + root_count name (patterns_at (drop i parts)) ≡ total → count + more + root_count name (patterns_at (drop (i + 1) parts)) ≡ total
count_step name parts i count more total d lt is sum =
    let here = patterns_in (get_or parts i d) in
    let rest = patterns_at (drop (suc i) parts) in
    let a : root_count name (patterns_at (drop i parts)) ≡ root_count name here + root_count name rest = ap (λ ps. root_count name (patterns_at ps)) (drop-cons parts i d lt) ∙ count_joined name here rest in
    let b : root_count name (patterns_at (drop (i + 1) parts)) ≡ root_count name rest = ap (λ n. root_count name (patterns_at (drop n parts))) (add-one i) in
    omega arith

-- at the end
pub count_all : (name : List ℕ) (parts : List Part) (i count total : ℕ) → length parts ≤ i → count + root_count name (patterns_at (drop i parts)) ≡ total → count ≡ total
count_all name parts i count total ge sum =
    let e : root_count name (patterns_at (drop i parts)) ≡ 0 = ap (λ ps. root_count name (patterns_at ps)) (drop_all i parts ge) in
    omega arith

-- No pass has more than 51 patterns

at_most : (name : List ℕ) (ps : List Pattern) → root_count name ps ≤ length ps
at_most name [] = omega arith
at_most name (p ∷ ps) = by (has_root name p) (at_most name ps)
  where
    by : (b : Bool) → root_count name ps ≤ length ps → (if b then root_count name ps + 1 else root_count name ps) ≤ length (p ∷ ps)
    by true rest = omega arith
    by false rest = omega arith

by_length : (name : List ℕ) (ps : List Pattern) (n : ℕ) → length ps ≡ n → n ≤ 51 → root_count name ps ≤ 51
by_length name ps n e low = let most = at_most name ps in omega arith

pub few : (pass : PassName) (name : List ℕ) → patterns_with pass name ≤ 51
few ConvertScfToCf name = by_length name (patterns_of (pass_of ConvertScfToCf)) 5 refl (omega arith)
few ArithExpand name = by_length name (patterns_of (pass_of ArithExpand)) 5 refl (omega arith)
few ConvertArithToLlvm name = by_length name (patterns_of (pass_of ConvertArithToLlvm)) 25 refl (omega arith)
few ConvertCfToLlvm name = by_length name (patterns_of (pass_of ConvertCfToLlvm)) 4 refl (omega arith)
few ConvertFuncToLlvm name = by_length name (patterns_of (pass_of ConvertFuncToLlvm)) 3 refl (omega arith)
few FinalizeMemrefToLlvm name = by_length name (patterns_of (pass_of FinalizeMemrefToLlvm)) 8 refl (omega arith)
few ReconcileUnrealizedCasts name = omega arith
few FullConvertToLlvm name = by_length name (patterns_of (pass_of FullConvertToLlvm)) 51 refl (omega arith)
