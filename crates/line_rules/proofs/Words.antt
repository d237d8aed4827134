-- Small lemmas on numbers, lists and tests.
use Rattle.std.proofs.Common.{◌≡◌, ℕ, ◌==◌, Bool, true, false, List, [], ◌∷◌, ◌++◌, refl, sym, ap, ◌∙◌, inl, inr, true≢false}
use Rattle.std.specs.Prelude.{◌||◌, ◌⊎◌}
use Rattle.rule_model.specs.Words.{has, binds_in_ops, results_of}
use Rattle.rule_model.specs.Paths.{Either}
use Rattle.plain_tree.specs.Ops.{Op, Ops}
use Rattle.line_rules.specs.Lines.{put_ops, bound_by}

pub or_left : (a b : Bool) → a ≡ true → (a || b) ≡ true
or_left true b e = refl
or_left false b e = absurd (true≢false (sym e))

pub or_right : (a b : Bool) → b ≡ true → (a || b) ≡ true
or_right true b e = refl
or_right false b e = e

pub or_cases : (a b : Bool) → (a || b) ≡ true → (a ≡ true) ⊎ (b ≡ true)
or_cases true b e = inl refl
or_cases false b e = inr e

pub or_first : (a b : Bool) → (a || b) ≡ false → a ≡ false
or_first true b e = absurd (true≢false e)
or_first false b e = refl

pub or_second : (a b : Bool) → (a || b) ≡ false → b ≡ false
or_second true b e = absurd (true≢false e)
or_second false b e = e

pub or_none : (a b : Bool) → a ≡ false → b ≡ false → (a || b) ≡ false
or_none true b e f = absurd (true≢false e)
or_none false b e f = f

pub clash : {P : Type 0} {b : Bool} → b ≡ true → b ≡ false → P
clash e f = absurd (true≢false (sym e ∙ f))

-- where a test can't be true it is false
pub not_so : (b : Bool) → (b ≡ true → ⊥) → b ≡ false
not_so true never = absurd (never refl)
not_so false never = refl

pub by_test : {P : Type 0} (b : Bool) → (b ≡ true → P) → (b ≡ false → P) → P
by_test true f g = f refl
by_test false f g = g refl

pub has_joined : (v : ℕ) (ms ns : List ℕ) → has v (ms ++ ns) ≡ (has v ms || has v ns)
has_joined v [] ns = refl
has_joined v (m ∷ ms) ns = ap (λ b. (m == v) || b) (has_joined v ms ns) ∙ grouped (m == v) (has v ms) (has v ns)
  where
    grouped : (a b c : Bool) → (a || (b || c)) ≡ ((a || b) || c)
    grouped true b c = refl
    grouped false b c = refl

pub has_left : (v : ℕ) (ms ns : List ℕ) → has v ms ≡ true → has v (ms ++ ns) ≡ true
has_left v ms ns e = has_joined v ms ns ∙ or_left (has v ms) (has v ns) e

pub has_right : (v : ℕ) (ms ns : List ℕ) → has v ns ≡ true → has v (ms ++ ns) ≡ true
has_right v ms ns e = has_joined v ms ns ∙ or_right (has v ms) (has v ns) e

pub has_cases : (v : ℕ) (ms ns : List ℕ) → has v (ms ++ ns) ≡ true → (has v ms ≡ true) ⊎ (has v ns ≡ true)
has_cases v ms ns e = or_cases (has v ms) (has v ns) (sym (has_joined v ms ns) ∙ e)

pub has_neither : (v : ℕ) (ms ns : List ℕ) → has v ms ≡ false → has v ns ≡ false → has v (ms ++ ns) ≡ false
has_neither v ms ns e f = has_joined v ms ns ∙ or_none (has v ms) (has v ns) e f

pub none_first : (v : ℕ) (ms ns : List ℕ) → has v (ms ++ ns) ≡ false → has v ms ≡ false
none_first v ms ns e = or_first (has v ms) (has v ns) (sym (has_joined v ms ns) ∙ e)

pub none_second : (v : ℕ) (ms ns : List ℕ) → has v (ms ++ ns) ≡ false → has v ns ≡ false
none_second v ms ns e = or_second (has v ms) (has v ns) (sym (has_joined v ms ns) ∙ e)

-- what operations define that are put in front
pub binds_put : (v : ℕ) (l : List Op) (more : Ops) → binds_in_ops v (put_ops l more) ≡ (has v (bound_by l) || binds_in_ops v more)
binds_put v [] more = refl
binds_put v (o ∷ l) more =
    ap (λ b. has v (results_of o) || b) (binds_put v l more) ∙ grouped (has v (results_of o)) (has v (bound_by l)) (binds_in_ops v more)
    ∙ ap (λ b. b || binds_in_ops v more) (sym (has_joined v (results_of o) (bound_by l)))
  where
    grouped : (a b c : Bool) → (a || (b || c)) ≡ ((a || b) || c)
    grouped true b c = refl
    grouped false b c = refl

-- either part
pub either_when : (b : Bool) (P Q : Type 0) → (b ≡ true → P) → (b ≡ false → Q) → Either b P Q
either_when true P Q f g = f refl
either_when false P Q f g = g refl

pub same_test : (a b : Bool) → (a ≡ true → b ≡ true) → (b ≡ true → a ≡ true) → a ≡ b
same_test true true f g = refl
same_test true false f g = sym (f refl)
same_test false true f g = g refl
same_test false false f g = refl
