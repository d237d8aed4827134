-- Places in lists.
use Rattle.std.specs.Prelude.{◌≡◌, ◌⊎◌, ◌+◌, ℕ, zero, suc, List, [], ◌∷◌, ◌++◌, Some, slice_get, length}
use Rattle.std.specs.List.{AllZip}
use Rattle.std.proofs.Common.{sym, ◌∙◌, ap, subst, refl, inl, inr, arith}
use Rattle.std.proofs.lemmas.Option.{same_Some, none-some}

pub at_left : {X : Type 0} (xs ys : List X) (i : ℕ) (x : X) → slice_get xs i ≡ Some x → slice_get (xs ++ ys) i ≡ Some x
at_left [] ys i x at = absurd (none-some x at)
at_left (y ∷ xs) ys zero x at = at
at_left (y ∷ xs) ys (suc i) x at = at_left xs ys i x at

-- an item of a list with one more behind it
pub at_more : {X : Type 0} (xs : List X) (x : X) (i : ℕ) (y : X) → slice_get (xs ++ x ∷ []) i ≡ Some y → (slice_get xs i ≡ Some y) ⊎ ((i ≡ length xs) × (x ≡ y))
at_more [] x zero y at = inr (refl, same_Some x y at)
at_more [] x (suc i) y at = absurd (none-some y at)
at_more (z ∷ xs) x zero y at = inl at
at_more (z ∷ xs) x (suc i) y at = elim (at_more xs x i y at) as (λ _. (slice_get xs i ≡ Some y) ⊎ ((suc i ≡ length (z ∷ xs)) × (x ≡ y))) [ inl was ↦ inl was | inr new ↦ inr (omega (arith, new.0), new.1) ]

-- an item of two lists, one behind the other
pub at_either : {X : Type 0} (xs ys : List X) (i : ℕ) (x : X) → slice_get (xs ++ ys) i ≡ Some x → (slice_get xs i ≡ Some x) ⊎ ((j : ℕ) × (slice_get ys j ≡ Some x))
at_either [] ys i x at = inr (i, at)
at_either (y ∷ xs) ys zero x at = inl at
at_either (y ∷ xs) ys (suc i) x at = at_either xs ys i x at

-- items that stand in pairs
pub zip_more : {A B : Type 0} (R : A → B → Type 0) (xs : List A) (ys : List B) (x : A) (y : B) → AllZip R xs ys → R x y → AllZip R (xs ++ x ∷ []) (ys ++ y ∷ [])
zip_more R [] [] x y t r = (r, tt)
zip_more R [] (w ∷ ys) x y t r = absurd t
zip_more R (v ∷ xs) [] x y t r = absurd t
zip_more R (v ∷ xs) (w ∷ ys) x y t r = (t.0, zip_more R xs ys x y t.1 r)

zip_at : {A B : Type 0} (R : A → B → Type 0) (v : A) (w y : B) → w ≡ y → R v w → R v y
zip_at R v w y same r = subst (R v) same r

zip_from : {A B : Type 0} (R : A → B → Type 0) (v x : A) (w : B) → v ≡ x → R v w → R x w
zip_from R v x w same r = subst (λ z. R z w) same r

pub zip_there : {A B : Type 0} (R : A → B → Type 0) (xs : List A) (ys : List B) (i : ℕ) (y : B) → AllZip R xs ys → slice_get ys i ≡ Some y → (x : A) × (slice_get xs i ≡ Some x) × R x y
zip_there R [] [] i y t at = absurd (none-some y at)
zip_there R [] (w ∷ ys) i y t at = absurd t
zip_there R (v ∷ xs) [] i y t at = absurd t
zip_there R (v ∷ xs) (w ∷ ys) zero y t at = (v, refl, zip_at R v w y (same_Some w y at) t.0)
zip_there R (v ∷ xs) (w ∷ ys) (suc i) y t at = zip_there R xs ys i y t.1 at

pub zip_here : {A B : Type 0} (R : A → B → Type 0) (xs : List A) (ys : List B) (i : ℕ) (x : A) → AllZip R xs ys → slice_get xs i ≡ Some x → (y : B) × (slice_get ys i ≡ Some y) × R x y
zip_here R [] [] i x t at = absurd (none-some x at)
zip_here R [] (w ∷ ys) i x t at = absurd t
zip_here R (v ∷ xs) [] i x t at = absurd t
zip_here R (v ∷ xs) (w ∷ ys) zero x t at = (w, refl, zip_from R v x w (same_Some v x at) t.0)
zip_here R (v ∷ xs) (w ∷ ys) (suc i) x t at = zip_here R xs ys i x t.1 at

-- a relation of the first list to the second one holds where it holds at each place of the second
pub zip_each : {A B : Type 0} (R S : A → B → Type 0) (xs : List A) (ys : List B) → ((i : ℕ) (x : A) (y : B) → slice_get ys i ≡ Some y → R x y → S x y) → AllZip R xs ys → AllZip S xs ys
zip_each R S [] [] f t = tt
zip_each R S [] (w ∷ ys) f t = t
zip_each R S (v ∷ xs) [] f t = t
zip_each R S (v ∷ xs) (w ∷ ys) f t = (f 0 v w refl t.0, zip_each R S xs ys (λ i. f (suc i)) t.1)
