-- The first place of a list at which something holds.
use Rattle.std.specs.Prelude.{◌≡◌, ℕ, zero, suc, Bool, true, List, [], ◌∷◌, Option, Some, None}
use Rattle.rule_model.specs.Words.{AllOf}

-- P holds at the n-th of these, and at none in front of it
abbrev pub IsFirst : {A : Type 0} → (A → Type 0) → List A → ℕ → Type 0
IsFirst P [] n = ⊥
IsFirst P (x ∷ xs) zero = P x
IsFirst P (x ∷ xs) (suc n) = (P x → ⊥) × IsFirst P xs n

-- the first place where P holds, none where it holds nowhere
abbrev pub FirstAt : {A : Type 0} → (A → Type 0) → List A → Option ℕ → Type 0
FirstAt P xs None = AllOf (λ x. P x → ⊥) xs
FirstAt P xs (Some n) = IsFirst P xs n

-- at most one place is the first
abbrev pub OneFirst : Type 0
OneFirst = (test : ℕ → Bool) (xs : List ℕ) (m n : Option ℕ) → FirstAt (λ x. test x ≡ true) xs m → FirstAt (λ x. test x ≡ true) xs n → m ≡ n
