-- Places of sets one behind another.
use Rattle.std.proofs.Common.{◌≡◌, ℕ, ◌+◌, ◌-◌, ◌<◌, ◌≤◌, zero, suc, List, [], ◌∷◌, ◌++◌, drop, get_or, length, Option, Some, None, refl, sym, ap, ◌∙◌, arith}
use Rattle.std.specs.Prelude.{slice_get}
use Rattle.std.proofs.lemmas.List.{drop_more}
use Rattle.conversion_model.specs.Rows.{Pattern}
use Rattle.pass_rows.specs.declared.parts.Part.{Part}
use Rattle.pass_rows.specs.declared.places.Place.{Place}
use Rattle.pass_rows.specs.Parts.{patterns_at, patterns_in}
use Rattle.pass_rows.specs.Places.{pattern_at}

in_front : {A : Type 0} (xs ys : List A) (k : ℕ) → k < length xs → slice_get (xs ++ ys) k ≡ slice_get xs k
in_front [] ys k h = absurd (omega (arith, h))
in_front (x ∷ xs) ys zero h = refl
in_front (x ∷ xs) ys (suc k) h = in_front xs ys k (omega (arith, h))

behind : {A : Type 0} (xs ys : List A) (k : ℕ) → length xs ≤ k → slice_get (xs ++ ys) k ≡ slice_get ys (k - length xs)
behind [] ys k h = let e : k ≡ k - 0 = omega arith in ap (slice_get ys) e
behind (x ∷ xs) ys zero h = absurd (omega (arith, h))
behind (x ∷ xs) ys (suc k) h = let e : k - length xs ≡ suc k - suc (length xs) = omega arith in behind xs ys k (omega (arith, h)) ∙ ap (slice_get ys) e

-- the next set is read
opened : (parts : List Part) (i : ℕ) (d : Part) → i < length parts → patterns_at (drop i parts) ≡ patterns_in (get_or parts i d) ++ patterns_at (drop (i + 1) parts)
opened parts i d h = ap (λ (ps : List Part). patterns_at ps) (drop_more parts i d h)

-- a place in the next set
pub place_here : (parts : List Part) (i left count : ℕ) (d : Part) → i < length parts → count ≡ length (patterns_in (get_or parts i d)) → left < count
    → slice_get (patterns_in (get_or parts i d)) left ≡ slice_get (patterns_at (drop i parts)) left
place_here parts i left count d h is below =
    sym (ap (λ (ps : List Pattern). slice_get ps left) (opened parts i d h) ∙ in_front (patterns_in (get_or parts i d)) (patterns_at (drop (i + 1) parts)) left (omega (arith, is, below)))

-- a place behind the next set
pub place_behind : (parts : List Part) (i left count : ℕ) (d : Part) → i < length parts → count ≡ length (patterns_in (get_or parts i d)) → count ≤ left
    → slice_get (patterns_at (drop (i + 1) parts)) (left - count) ≡ slice_get (patterns_at (drop i parts)) left
place_behind parts i left count d h is above =
    ap (λ n. slice_get (patterns_at (drop (i + 1) parts)) (left - n)) is
    ∙ sym (ap (λ (ps : List Pattern). slice_get ps left) (opened parts i d h) ∙ behind (patterns_in (get_or parts i d)) (patterns_at (drop (i + 1) parts)) left (omega (arith, is, above)))

-- The pattern at a place of a pass

pub found : (parts : List Part) (table : List Pattern) (at : ℕ) (r : Option Place) (p : Place) → patterns_at parts ≡ table → pattern_at r ≡ slice_get (patterns_at parts) at → r ≡ Some p
    → slice_get (patterns_in p.part) p.at ≡ slice_get table at
found parts table at r p e f g = sym (ap pattern_at g) ∙ f ∙ ap (λ (ps : List Pattern). slice_get ps at) e

pub missing : (parts : List Part) (table : List Pattern) (at : ℕ) (r : Option Place) → patterns_at parts ≡ table → pattern_at r ≡ slice_get (patterns_at parts) at → r ≡ None
    → None ≡ slice_get table at
missing parts table at r e f g = sym (ap pattern_at g) ∙ f ∙ ap (λ (ps : List Pattern). slice_get ps at) e
