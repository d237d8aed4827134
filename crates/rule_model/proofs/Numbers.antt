-- Numbers in lists, and parts of options.
use Rattle.std.proofs.Common.{◌≡◌, ℕ, ◌==◌, Bool, true, false, List, [], ◌∷◌, ◌++◌, Option, Some, None, refl, sym, ap, subst, true≢false}
use Rattle.std.specs.Prelude.{◌||◌, ◌&&◌, not}
use Rattle.std.proofs.lemmas.Bool.{eqb-true, eq-eqb}
use Rattle.rule_model.specs.Words.{has, AllOf}

abbrev from_some : {A : Type 0} → A → Option A → A
from_some a None = a
from_some a (Some b) = b

pub some_same : {A : Type 0} (a b : A) → Some a ≡ Some b → a ≡ b
some_same a b e = ap (from_some a) e

pub itself : (n : ℕ) → (n == n) ≡ true
itself n = eq-eqb n n refl

pub or_right : (a b : Bool) → b ≡ true → (a || b) ≡ true
or_right true b e = refl
or_right false b e = e

pub or_first : (a b : Bool) → (a || b) ≡ false → a ≡ false
or_first true b e = absurd (true≢false e)
or_first false b e = refl

pub or_second : (a b : Bool) → (a || b) ≡ false → b ≡ false
or_second true b e = absurd (true≢false e)
or_second false b e = e

pub and_first : (a b : Bool) → (a && b) ≡ true → a ≡ true
and_first true b e = refl
and_first false b e = absurd (true≢false (sym e))

pub and_second : (a b : Bool) → (a && b) ≡ true → b ≡ true
and_second true b e = e
and_second false b e = absurd (true≢false (sym e))

pub not_true : (a : Bool) → not a ≡ true → a ≡ false
not_true true e = absurd (true≢false (sym e))
not_true false e = refl

one_of_two : (P : ℕ → Type 0) (m n : ℕ) (b c : Bool) → (m == n) ≡ b → P m → (c ≡ true → P n) → (b || c) ≡ true → P n
one_of_two P m n true c e p q h = subst P (eqb-true m n e) p
one_of_two P m n false c e p q h = q h

-- what holds of each number of a list
pub has_of : (P : ℕ → Type 0) (n : ℕ) (ns : List ℕ) → AllOf P ns → has n ns ≡ true → P n
has_of P n [] all h = absurd (true≢false (sym h))
has_of P n (m ∷ ns) all h = one_of_two P m n (m == n) (has n ns) refl all.0 (has_of P n ns all.1) h

here_first : (n : ℕ) (ns : List ℕ) → has n (n ∷ ns) ≡ true
here_first n ns = ap (λ b. b || has n ns) (itself n)

pub all_of : (P : ℕ → Type 0) (ns : List ℕ) → ((n : ℕ) → has n ns ≡ true → P n) → AllOf P ns
all_of P [] each = tt
all_of P (n ∷ ns) each = (each n (here_first n ns), all_of P ns (λ m h. each m (or_right (n == m) (has m ns) h)))

pub only_one : (n : ℕ) → has n (n ∷ []) ≡ true
only_one n = here_first n []

pub all_joined : (P : ℕ → Type 0) (ms ns : List ℕ) → AllOf P ms → AllOf P ns → AllOf P (ms ++ ns)
all_joined P [] ns a b = b
all_joined P (m ∷ ms) ns a b = (a.0, all_joined P ms ns a.1 b)
