-- The least of what was found is one of it, and none comes before it.
use Rattle.std.proofs.Common.{◌≡◌, ℕ, ◌==◌, Bool, true, false, List, [], ◌∷◌, Option, Some, None, refl, arith, inl, inr, ⊎_elim}
use Rattle.std.specs.Prelude.{nat_le, nat_lt, if◌then◌else◌}
use Rattle.std.proofs.lemmas.Bool.Decides.{nat_tests}
use Rattle.text_kinds.specs.declared.found.Found.{Found}
use Rattle.text_kinds.specs.Kinds.{IsLeastOf, is_sooner, least_from, least_of, rank}

-- the order, over plain numbers
abbrev soon : ℕ → ℕ → ℕ → ℕ → Bool
soon p q r s = if p == q then nat_le r s else nat_lt p q

soon_same : (p r : ℕ) → soon p p r r ≡ true
soon_same p r = grind (arith, nat_tests)

soon_on : (p q m r s t : ℕ) → soon p q r s ≡ true → soon q m s t ≡ true → soon p m r t ≡ true
soon_on p q m r s t a b = grind (arith, nat_tests)

soon_or : (p q r s : ℕ) → soon p q r s ≡ false → soon q p s r ≡ true
soon_or p q r s a = grind (arith, nat_tests)

same : (f : Found) → is_sooner f f ≡ true
same f = soon_same f.place (rank f.kind)

on : (f g h : Found) → is_sooner f g ≡ true → is_sooner g h ≡ true → is_sooner f h ≡ true
on f g h a b = soon_on f.place g.place h.place (rank f.kind) (rank g.kind) (rank h.kind) a b

other : (f g : Found) → is_sooner f g ≡ false → is_sooner g f ≡ true
other f g a = soon_or f.place g.place (rank f.kind) (rank g.kind) a

-- one more, which comes later
with_second : (a b : Found) (os : List (Option Found)) (r : Option Found) → is_sooner a b ≡ true → IsLeastOf (Some a ∷ os) r → IsLeastOf (Some a ∷ Some b ∷ os) r
with_second a b os None before h = absurd h
with_second a b os (Some f) before h = (⊎_elim (λ is. inl is) (λ more. inr (inr more)) h.0, (h.1.0, (on f a b h.1.0 before, h.1.1)))

with_first : (a b : Found) (os : List (Option Found)) (r : Option Found) → is_sooner b a ≡ true → IsLeastOf (Some b ∷ os) r → IsLeastOf (Some a ∷ Some b ∷ os) r
with_first a b os None before h = absurd h
with_first a b os (Some f) before h = (inr h.0, (on f b a h.1.0 before, h.1))

pick : (a b : Found) (os : List (Option Found)) (t : Bool) → is_sooner a b ≡ t → ((o : Option Found) → IsLeastOf (o ∷ os) (least_from o os))
    → IsLeastOf (Some a ∷ Some b ∷ os) (least_from (if t then Some a else Some b) os)
pick a b os true is rest = with_second a b os (least_from (Some a) os) is (rest (Some a))
pick a b os false is rest = with_first a b os (least_from (Some b) os) (other a b is) (rest (Some b))

least_ok : (os : List (Option Found)) (first : Option Found) → IsLeastOf (first ∷ os) (least_from first os)
least_ok [] None = tt
least_ok [] (Some a) = (inl refl, (same a, tt))
least_ok (o ∷ os) None = least_ok os o
least_ok (None ∷ os) (Some a) = least_ok os (Some a)
least_ok (Some b ∷ os) (Some a) = pick a b os (is_sooner a b) refl (least_ok os)

pub finds_least : (os : List (Option Found)) → IsLeastOf os (least_of os)
finds_least os = least_ok os None
