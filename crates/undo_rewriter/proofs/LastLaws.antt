-- The last item of a list.
use Rattle.std.proofs.Common.{◌≡◌, ℕ, ◌-◌, List, [], ◌∷◌, ◌++◌, length, set, refl, ap, ◌∙◌, arith}
use Rattle.std.proofs.lemmas.List.{length_push}

set_last : {X : Type 0} (us : List X) (u v : X) → set (us ++ u ∷ []) (length us) v ≡ us ++ v ∷ []
set_last [] u v = refl
set_last (x ∷ us) u v = ap (λ xs. x ∷ xs) (set_last us u v)

-- another item in the place of the last one
pub last_set : {X : Type 0} (us : List X) (u v : X) (xs : List X) (n : ℕ) → xs ≡ us ++ u ∷ [] → n ≡ length xs → set xs (n - 1) v ≡ us ++ v ∷ []
last_set us u v xs n e l = let k : n - 1 ≡ length us = omega (arith, l, ap length e, length_push us u) in
    ap (λ ys. set ys (n - 1) v) e ∙ ap (λ j. set (us ++ u ∷ []) j v) k ∙ set_last us u v
