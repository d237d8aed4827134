-- One number, line or value more.
use Rattle.std.proofs.Common.{◌≡◌, ℕ, ◌-◌, ◌+◌, ◌<◌, ◌≤◌, Bool, true, false, List, [], ◌∷◌, ◌++◌, length, drop, get_or, arith, refl, sym, ap, ◌∙◌}
use Rattle.std.specs.Prelude.{◌||◌, ◌&&◌, not}
use Rattle.std.specs.List.{list_all, list_any}
use Rattle.std.proofs.lemmas.Grind.{common_steps}
use Rattle.std.specs.Borrow.{Bor}
use Rattle.std.proofs.lemmas.List.{drop_more}
use Rattle.tree_model.specs.declared.type_tree.TypeTree.{TypeTree}
use Rattle.tree_model.specs.declared.op_tree.OpTree.{OpTree, out-OpTree}
use Rattle.plain_tree.specs.Types.{PlainType}
use Rattle.plain_tree.specs.Ops.{plain_values}
use Rattle.tree_reconcile.specs.Lines.{Line, is_forward, is_result, line_at, lines_at, with_results}
use Rattle.tree_reconcile.proofs.Layers.{line_at_is}

or_first : (a b c : Bool) → (b || (a || c)) ≡ (a || (b || c))
or_first true true c = refl
or_first true false c = refl
or_first false b c = refl

-- the last of a list comes first
pub any_last : {A : Type 0} (p : A → Bool) (xs : List A) (x : A) → list_any p (xs ++ x ∷ []) ≡ (p x || list_any p xs)
any_last p [] x = refl
any_last p (y ∷ ys) x = ap (λ b. p y || b) (any_last p ys x) ∙ or_first (p x) (p y) (list_any p ys)

pub or_all : (a b c : Bool) → ((a || b) || c) ≡ (a || (b || c))
or_all true b c = refl
or_all false b c = refl

pub any_plain : (p : ℕ → Bool) (vs : List (ℕ × TypeTree)) → list_any (λ (r : ℕ × PlainType). p r.0) (plain_values vs) ≡ list_any (λ (r : ℕ × TypeTree). p r.0) vs
any_plain p [] = refl
any_plain p (v ∷ vs) = ap (λ b. p v.0 || b) (any_plain p vs)

pub results_any : (o : OpTree) (p : ℕ → Bool) → list_any (λ (r : ℕ × PlainType). p r.0) (line_at o).results ≡ list_any (λ (r : ℕ × TypeTree). p r.0) (out-OpTree o).results
results_any o p = ap (λ (l : Line). list_any (λ (r : ℕ × PlainType). p r.0) l.results) (line_at_is o) ∙ any_plain p (out-OpTree o).results

-- the lines from one place on
pub next_line : (ops : List (Bor OpTree)) (i : ℕ) (o : Bor OpTree) → 0 < i → i ≤ length ops → o ≡ get_or ops (i - 1) o → lines_at (drop (i - 1) ops) ≡ line_at o.now ∷ lines_at (drop i ops)
next_line ops i o more fits is =
    let same : i - 1 + 1 ≡ i = omega (arith, more) in
    ap lines_at (drop_more ops (i - 1) o (omega (arith, more, fits)) ∙ ap (λ (x : Bor OpTree). x ∷ drop (i - 1 + 1) ops) (sym is))
    ∙ ap (λ n. line_at o.now ∷ lines_at (drop n ops)) same

pub forward_step : (ls more : List Line) (l : Line) (old new : ℕ → Bool) (f b r : Bool) → more ≡ l ∷ ls → old ≡ is_result ls → new ≡ with_results l old → f ≡ is_forward ls
    → b ≡ (not l.is_cast || list_all (λ v. not (new v)) l.operands) → r ≡ (f && b) → (r ≡ is_forward more) × (new ≡ is_result more)
forward_step ls more l old new f b r same was now forward before both =
    let all : new ≡ is_result (l ∷ ls) = now ∙ ap (with_results l) was in (
      both ∙ ap (λ x. x && b) forward ∙ ap (λ x. is_forward ls && x) (before ∙ ap (λ (g : ℕ → Bool). not l.is_cast || list_all (λ v. not (g v)) l.operands) all) ∙ sym (ap is_forward same),
      all ∙ sym (ap is_result same),
    )

pub ruleset used_steps = (common_steps, line_at_is, any_last, or_all)
