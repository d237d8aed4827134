-- Sets of kinds of token, and that two of them have nothing in common.
use Rattle.std.specs.Prelude.{◌≡◌, ℕ, zero, suc, Bool, true, false, ◌&&◌, ◌||◌, not, List, [], ◌∷◌, Option, Some, None}

-- 'q too, where e': by cases on e, so that it computes away
abbrev pub also : Bool → Bool → Bool → Bool
also true p q = p || q
also false p q = p

-- no kind is in both
abbrev pub Apart : {K : Type 0} → (K → Bool) → (K → Bool) → Type 0
Apart {K = K} p q = (k : K) → p k ≡ true → q k ≡ true → ⊥

-- no kind of the list is in both
abbrev pub none_both : {K : Type 0} → (K → Bool) → (K → Bool) → List K → Bool
none_both p q [] = true
none_both p q (k ∷ ks) = not (p k && q k) && none_both p q ks

-- what stands at a place of a list
abbrev pub at_place : {K : Type 0} → ℕ → List K → Option K
at_place n [] = None
at_place zero (k ∷ ks) = Some k
at_place (suc n) (k ∷ ks) = at_place n ks

-- the list has every kind
abbrev pub HasEvery : {K : Type 0} → List K → Type 0
HasEvery {K = K} every = (k : K) → (place : ℕ) × (at_place place every ≡ Some k)
