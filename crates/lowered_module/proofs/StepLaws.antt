-- The lines on one failure more.
use Rattle.std.proofs.Common.{◌≡◌, ℕ, suc, ◌+◌, ◌≤◌, ◌<◌, List, [], ◌∷◌, ◌++◌, length, get_or, drop, map, refl, sym, ap, ◌∙◌, add-one, append_assoc, drop-cons}
use Rattle.std.specs.Prelude.{flat_map}
use Rattle.std.proofs.lemmas.List.{append-nil, drop_all}
use Rattle.plain_tree.specs.Ops.{Op}
use Rattle.ordered_diags.specs.declared.diag.Diag.{Diag}
use Rattle.ordered_diags.specs.Failures.{lines_of}
use Rattle.pass_fold.specs.declared.failure.FailureTree.{FailureTree}
use Rattle.pass_fold.specs.Views.{failure_view}
use Rattle.lowered_module.specs.Lines.{all_lines, said}

abbrev pub joined : List (List Diag) → List Diag
joined lists = flat_map (λ list. list) lists

joined_more : (lists : List (List Diag)) (x : List Diag) → joined (lists ++ x ∷ []) ≡ joined lists ++ x
joined_more [] x = append-nil x
joined_more (y ∷ ys) x = ap (λ ds. y ++ ds) (joined_more ys x) ∙ sym (append_assoc y (joined ys) x)

pub next_lines : (funcs : List Op) (es : List FailureTree) (lists next : List (List Diag)) (x : List Diag) (i : ℕ) (e : FailureTree) → i < length es → e ≡ get_or es i e
    → x ≡ lines_of (said funcs (failure_view e)) → next ≡ lists ++ x ∷ []
    → joined lists ++ all_lines funcs (map failure_view (drop i es)) ≡ all_lines funcs (map failure_view es)
    → joined next ++ all_lines funcs (map failure_view (drop (i + 1) es)) ≡ all_lines funcs (map failure_view es)
next_lines funcs es lists next x i e lt at is made so_far =
    let rest = all_lines funcs (map failure_view (drop (i + 1) es)) in
    let front : drop i es ≡ e ∷ drop (i + 1) es = drop-cons es i e lt ∙ ap (λ y. y ∷ drop (suc i) es) (sym at) ∙ ap (λ n. e ∷ drop n es) (sym (add-one i)) in
    let all : all_lines funcs (map failure_view (drop i es)) ≡ x ++ rest = ap (λ ys. all_lines funcs (map failure_view ys)) front ∙ ap (λ ds. ds ++ rest) (sym is) in
    ap (λ ls. joined ls ++ rest) made ∙ ap (λ ds. ds ++ rest) (joined_more lists x) ∙ append_assoc (joined lists) x rest ∙ ap (λ ds. joined lists ++ ds) (sym all) ∙ so_far
