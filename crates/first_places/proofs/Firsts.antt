-- At most one place is the first.
use Rattle.std.proofs.Common.{◌≡◌, ℕ, zero, suc, Bool, true, List, [], ◌∷◌, Option, Some, None, refl, sym, ap, arith}
use Rattle.rule_model.specs.Words.{AllOf}
use Rattle.first_places.specs.First.{FirstAt, IsFirst, OneFirst}

none_some : {A : Type 0} (P : A → Type 0) (xs : List A) (n : ℕ) → AllOf (λ x. P x → ⊥) xs → IsFirst P xs n → ⊥
none_some P [] n none first = first
none_some P (x ∷ xs) zero none first = none.0 first
none_some P (x ∷ xs) (suc n) none first = none_some P xs n none.1 first.1

one_place : {A : Type 0} (P : A → Type 0) (xs : List A) (m n : ℕ) → IsFirst P xs m → IsFirst P xs n → m ≡ n
one_place P [] m n a b = absurd a
one_place P (x ∷ xs) zero zero a b = refl
one_place P (x ∷ xs) zero (suc n) a b = absurd (b.0 a)
one_place P (x ∷ xs) (suc m) zero a b = absurd (a.0 b)
one_place P (x ∷ xs) (suc m) (suc n) a b = ap (λ k. suc k) (one_place P xs m n a.1 b.1)

pub one_first : {A : Type 0} (P : A → Type 0) (xs : List A) (m n : Option ℕ) → FirstAt P xs m → FirstAt P xs n → m ≡ n
one_first P xs None None a b = refl
one_first P xs None (Some n) a b = absurd (none_some P xs n a b)
one_first P xs (Some m) None a b = absurd (none_some P xs m b a)
one_first P xs (Some m) (Some n) a b = ap (λ k. Some k) (one_place P xs m n a b)

pub one : OneFirst
one test xs m n a b = one_first (λ x. test x ≡ true) xs m n a b

-- worked examples
second_of_three : FirstAt (λ (n : ℕ). n ≡ 5) (4 ∷ 5 ∷ 5 ∷ []) (Some 1)
second_of_three = (λ e. omega (arith, e), refl)
