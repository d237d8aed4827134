-- Lists of numbers.
use Rattle.std.proofs.Common.{◌≡◌, ℕ, zero, suc, ◌+◌, ◌<◌, Bool, true, false, List, [], ◌∷◌, length, get_or, drop, cond, refl, sym, ap, ◌∙◌, true≢false, arith}
use Rattle.std.specs.Prelude.{ℤ, pos, negsuc, ◌||◌, ◌&&◌, not, None}
use Rattle.std.specs.List.{list_any}
use Rattle.std.specs.Ordering.{int_eq}
use Rattle.std.proofs.lemmas.Bool.{eqb-true, eq-eqb}
use Rattle.std.proofs.lemmas.Bool.Decides.{Decides-int_eq, same_from_decides}
use Rattle.rule_model.specs.Forms.{are_distinct, first_and_two, same_number}

equal_numbers : (a b : ℤ) → same_number a b ≡ true → a ≡ b
equal_numbers (pos m) (pos n) e = ap pos (eqb-true m n e)
equal_numbers (negsuc m) (negsuc n) e = ap negsuc (eqb-true m n e)
equal_numbers (pos m) (negsuc n) e = absurd (true≢false (sym e))
equal_numbers (negsuc m) (pos n) e = absurd (true≢false (sym e))

itself : (a : ℤ) → same_number a a ≡ true
itself (pos n) = eq-eqb n n refl
itself (negsuc n) = eq-eqb n n refl

pub same_numbers : (a b : ℤ) → int_eq a b ≡ same_number b a
same_numbers a b =
    same_from_decides (int_eq a b) (same_number b a) (Decides-int_eq a b) (λ h. sym (equal_numbers b a h), λ e. ap (same_number b) e ∙ itself b)

-- one number more in a set
pub seen_more : (x : ℤ) (rest : List ℤ) (z : ℤ) (before after : Bool)
    → after ≡ cond (int_eq x z) true before → before ≡ list_any (same_number z) rest → after ≡ list_any (same_number z) (x ∷ rest)
seen_more x rest z before after put was = put ∙ ap (λ b. cond b true before) (same_numbers x z) ∙ go (same_number z x) was
  where
    go : (b : Bool) → before ≡ list_any (same_number z) rest → cond b true before ≡ (b || list_any (same_number z) rest)
    go true e = refl
    go false e = e

-- a number that stands again later
pub later_twice : (zs : List ℤ) (i j : ℕ) → j ≡ i + 1 → i < length zs → list_any (same_number (get_or zs i (pos 0))) (drop j zs) ≡ true → false ≡ are_distinct zs
later_twice [] i j e less h = absurd (omega (arith, less))
later_twice (z ∷ zs) zero j e less h =
    ap (λ b. not b && are_distinct zs) (sym (let one : 1 ≡ j = omega (arith, e) in ap (λ n. list_any (same_number z) (drop n (z ∷ zs))) one ∙ h))
later_twice (z ∷ zs) (suc i) zero e less h = absurd (omega (arith, e))
later_twice (z ∷ zs) (suc i) (suc j) e less h = go (list_any (same_number z) zs) (later_twice zs i j (omega (arith, e)) (omega (arith, less)) h)
  where
    go : (b : Bool) → false ≡ are_distinct zs → false ≡ (not b && are_distinct zs)
    go true k = refl
    go false k = k

-- numbers that are fewer than three, and more
pub few : (zs : List ℤ) → length zs < 3 → first_and_two zs ≡ None
few [] h = refl
few (pos a ∷ []) h = refl
few (negsuc a ∷ []) h = refl
few (pos a ∷ pos b ∷ []) h = refl
few (pos a ∷ negsuc b ∷ []) h = refl
few (negsuc a ∷ b ∷ []) h = refl
few (a ∷ b ∷ c ∷ zs) h = absurd (omega arith)
