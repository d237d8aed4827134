-- Laws of sets of kinds.
use Rattle.std.proofs.Common.{◌≡◌, ℕ, zero, suc, Bool, true, false, ◌&&◌, not, List, [], ◌∷◌, Some}
use Rattle.grammar_model.specs.Sets.{Apart, none_both, at_place, HasEvery}

none_here : (p q rest : Bool) → (not (p && q) && rest) ≡ true → p ≡ true → q ≡ true → ⊥
none_here true true rest e hp hq = absurd cc
none_here true false rest e hp hq = absurd cc
none_here false q rest e hp hq = absurd cc

none_later : (p q rest : Bool) → (not (p && q) && rest) ≡ true → rest ≡ true
none_later true true rest e = absurd cc
none_later true false rest e = e
none_later false q rest e = e

none_at : {K : Type 0} (p q : K → Bool) (n : ℕ) (ks : List K) (k : K) → at_place n ks ≡ Some k → none_both p q ks ≡ true → p k ≡ true → q k ≡ true → ⊥
none_at p q n [] k found none hp hq = absurd cc
none_at p q zero (j ∷ ks) k found none hp hq =
    let e : j ≡ k = cc in none_here (p j) (q j) (none_both p q ks) none (rw e hp) (rw e hq)
none_at p q (suc n) (j ∷ ks) k found none hp hq = none_at p q n ks k found (none_later (p j) (q j) (none_both p q ks) none) hp hq

-- over a list of every kind the test decides it
pub apart_by : {K : Type 0} (every : List K) → HasEvery every → (p q : K → Bool) → none_both p q every ≡ true → Apart p q
apart_by every all p q none = λ k. let (place, there) = all k in none_at p q place every k there none
