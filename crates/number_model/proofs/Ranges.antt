-- Which quotients and remainders are signed numbers of the width, and the laws of division at a width.
use Rattle.std.proofs.Common.{◌≡◌, ℕ, zero, suc, ◌+◌, ◌*◌, ◌-◌, ◌/◌, ◌%◌, ◌^◌, ◌<◌, ◌≤◌, Bool, true, false, refl, sym, ap, subst, ◌∙◌, true≢false, arith}
use Rattle.std.specs.Prelude.{ℤ, pos, negsuc, neg_ℤ, ◌+ℤ◌, ◌-ℤ◌, not, ◌&&◌, ◌||◌, int_div, int_rem, unsigned_abs, nat_lt, if◌then◌else◌}
use Rattle.std.specs.Ordering.{int_eq}
use Rattle.std.proofs.lemmas.Bool.Decides.{Decides-int_eq}
use Rattle.std.proofs.Math.Nat.{div-le_self, mod-lt, div-add-mod', div-lt_self, mod-one}
use lib.Signed.{mag, mag_rem}
use Rattle.number_model.specs.Numbers.{unsigned, signed_below, signed, wrapped, fits_signed, least}
use Rattle.number_model.specs.Answers.{Answer, Gives, Undefined, Outside, undefined_if}
use Rattle.number_model.specs.Arithmetic.{have_unlike_signs, lies_below, lies_above, quotient_up, quotient_down, no_quotient}
use Rattle.number_model.specs.Promises.{IsDivision, DividesTowardsZero, DividesUp, DividesDown, IsRoundedUp, IsRoundedDown}
use Rattle.number_model.proofs.Signed.{signed-wrapped, two_halves, half_above, from_below}
use Rattle.number_model.proofs.Divisions.{towards_zero, up_is, down_is}

-- the half of a width, as a bound
module _ (w : ℕ) where
  fits_from : (z : ℤ) → mag z < 2 ^ (w - 1) → fits_signed w z ≡ true
  fits_from (pos n) h = grind arith
  fits_from (negsuc n) h = grind arith

  fits_to : (z : ℤ) → fits_signed w z ≡ true → mag z < 2 ^ (w - 1)
  fits_to (pos n) h = from_below n (2 ^ (w - 1)) h
  fits_to (negsuc n) h = from_below n (2 ^ (w - 1)) h

  half_of : (u : ℕ) → 0 < w → u < 2 ^ w → mag (signed_below w u) < 2 ^ (w - 1)
  half_of u h lt = go (nat_lt u (2 ^ (w - 1))) refl
    where
      go : (b : Bool) → nat_lt u (2 ^ (w - 1)) ≡ b → mag (if b then pos u else negsuc (2 ^ w - suc u)) < 2 ^ (w - 1)
      go true e = from_below u (2 ^ (w - 1)) e
      go false e = let le : 2 ^ (w - 1) ≤ u = grind arith in omega (arith, two_halves w h)

  pub signed_fits : (a : ℕ) → 0 < w → mag (signed w a) < 2 ^ (w - 1)
  signed_fits a h = half_of (unsigned w a) h (mod-lt a (omega (arith, two_halves w h, half_above w)))

-- H is the half
mag_neg : (k H : ℕ) → k ≤ H → 0 < H → mag (neg_ℤ (pos k)) < H
mag_neg zero H le h = h
mag_neg (suc k) H le h = omega arith

quotient_below : (a b : ℤ) (H : ℕ) → 0 < H → mag a < H → mag b < H → int_eq b (pos 0) ≡ false → (a ≡ negsuc (H - 1) → b ≡ negsuc 0 → ⊥) → mag (int_div a b) < H
quotient_below (pos a) (pos b) H h fa fb some apart = omega (arith, div-le_self a b)
quotient_below (pos a) (negsuc b) H h fa fb some apart = mag_neg (a / suc b) H (omega (arith, div-le_self a (suc b))) h
quotient_below (negsuc a) (pos b) H h fa fb some apart = mag_neg (suc a / b) H (omega (arith, div-le_self (suc a) b)) h
quotient_below (negsuc a) (negsuc zero) H h fa fb some apart =
    let other : a ≡ H - 1 → ⊥ = λ e. apart (ap negsuc e) refl in
    let le : suc a / 1 ≤ suc a = div-le_self (suc a) 1 in
    grind arith
quotient_below (negsuc a) (negsuc (suc b)) H h fa fb some apart =
    let lt : suc a / suc (suc b) < suc a = div-lt_self (omega arith) (omega arith) in
    omega arith

-- one less than the negative of k
below_neg : (k H : ℕ) → k < H → mag (neg_ℤ (pos k) -ℤ pos 1) < H
below_neg zero H lt = lt
below_neg (suc k) H lt = omega arith

-- a quotient that is rounded up from below, and one that is rounded down from above: the remainder is not 0, so the divisor is 2 or more
pub wide : (k b r n : ℕ) → k * b + r ≡ n → (r ≡ 0 → ⊥) → r < b → 2 * k + 1 ≤ n
wide k b zero n e some lt = absurd (some refl)
wide k zero (suc r) n e some lt = absurd (omega arith)
wide k (suc zero) (suc r) n e some lt = absurd (omega arith)
wide k (suc (suc b)) (suc r) n e some lt = omega arith

first_of_both : (x y : Bool) → (x && y) ≡ true → x ≡ true
first_of_both true y h = refl
first_of_both false y h = h

-- a remainder that is not 0
some_rest : (r : ℤ) → not (int_eq r (pos 0)) ≡ true → r ≡ pos 0 → ⊥
some_rest r h e = true≢false (sym h ∙ ap not ((Decides-int_eq r (pos 0)).1 e))

rest_of_pos : (n : ℕ) (y : Bool) → (not (int_eq (pos n) (pos 0)) && y) ≡ true → n ≡ 0 → ⊥
rest_of_pos n y h e = some_rest (pos n) (first_of_both _ y h) (ap pos e)

rest_of_neg : (n : ℕ) (y : Bool) → (not (int_eq (neg_ℤ (pos n)) (pos 0)) && y) ≡ true → n ≡ 0 → ⊥
rest_of_neg n y h e = some_rest (neg_ℤ (pos n)) (first_of_both _ y h) (ap (λ k. neg_ℤ (pos k)) e)

not_apart : (x y : Bool) → (x && not y) ≡ true → y ≡ false
not_apart true false h = refl
not_apart true true h = sym h
not_apart false y h = absurd (true≢false (sym h))

are_apart : (x y : Bool) → (x && y) ≡ true → y ≡ true
are_apart true y h = h
are_apart false y h = absurd (true≢false (sym h))

up_below : (a b : ℤ) (H : ℕ) → 0 < H → mag a < H → mag b < H → int_eq b (pos 0) ≡ false → lies_below a b ≡ true → mag (int_div a b +ℤ pos 1) < H
up_below (pos a) (pos zero) H h fa fb some low = absurd (true≢false some)
up_below (pos a) (pos (suc b)) H h fa fb some low =
    let le : 2 * (a / suc b) + 1 ≤ a = wide (a / suc b) (suc b) (a % suc b) a (div-add-mod' a (suc b)) (rest_of_pos _ _ low) (mod-lt a (omega arith)) in
    omega arith
up_below (pos a) (negsuc b) H h fa fb some low =
    let same : have_unlike_signs (pos a) (negsuc b) ≡ false = not_apart _ _ low in
    absurd (grind arith)
up_below (negsuc a) (pos b) H h fa fb some low =
    let same : have_unlike_signs (negsuc a) (pos b) ≡ false = not_apart _ _ low in
    absurd (grind arith)
up_below (negsuc a) (negsuc zero) H h fa fb some low = absurd (rest_of_neg _ _ low (mod-one (suc a)))
up_below (negsuc a) (negsuc (suc b)) H h fa fb some low =
    let le : 2 * (suc a / suc (suc b)) + 1 ≤ suc a =
    wide (suc a / suc (suc b)) (suc (suc b)) (suc a % suc (suc b)) (suc a) (div-add-mod' (suc a) (suc (suc b))) (rest_of_neg _ _ low) (mod-lt (suc a) (omega arith)) in
    omega arith

down_below : (a b : ℤ) (H : ℕ) → 0 < H → mag a < H → mag b < H → int_eq b (pos 0) ≡ false → lies_above a b ≡ true → mag (int_div a b -ℤ pos 1) < H
down_below (pos a) (pos b) H h fa fb some high =
    let apart : have_unlike_signs (pos a) (pos b) ≡ true = are_apart (not (int_eq (int_rem (pos a) (pos b)) (pos 0))) (have_unlike_signs (pos a) (pos b)) high in
    absurd (grind arith)
down_below (pos a) (negsuc b) H h fa fb some high = below_neg (a / suc b) H (omega (arith, div-le_self a (suc b)))
down_below (negsuc a) (pos zero) H h fa fb some high = absurd (true≢false some)
down_below (negsuc a) (pos (suc b)) H h fa fb some high =
    let le : 2 * (suc a / suc b) + 1 ≤ suc a = wide (suc a / suc b) (suc b) (suc a % suc b) (suc a) (div-add-mod' (suc a) (suc b)) (rest_of_neg _ _ high) (mod-lt (suc a) (omega arith)) in
    below_neg (suc a / suc b) H (omega arith)
down_below (negsuc a) (negsuc b) H h fa fb some high =
    let apart : have_unlike_signs (negsuc a) (negsuc b) ≡ true = are_apart _ _ high in
    absurd (true≢false (sym apart))

-- At a width

-- what an answer that may be undefined says
defined : (b : Bool) (n r : ℕ) → undefined_if b (Gives n) ≡ Gives r → (b ≡ false) × (r ≡ n)
defined true n r e = absurd (undefined_is_none e)
  where
    Is : Answer ℕ → Type 0
    Is (Gives x) = ⊥
    Is Undefined = Unit {0}
    Is Outside = ⊥

    undefined_is_none : {r : ℕ} → Undefined ≡ Gives r → ⊥
    undefined_is_none e = subst Is e tt
defined false n r e = (refl, sym (ap (given n) e))
  where
    given : ℕ → Answer ℕ → ℕ
    given d (Gives x) = x
    given d Undefined = d
    given d Outside = d

neither : (x y : Bool) → (x || y) ≡ false → (x ≡ false) × (y ≡ false)
neither true y e = absurd (true≢false e)
neither false y e = (refl, e)

not_both : (x y : Bool) → (x && y) ≡ false → x ≡ true → y ≡ true → ⊥
not_both true true e p q = true≢false e
not_both true false e p q = true≢false (sym q)
not_both false y e p q = true≢false (sym p)

-- a division that is defined: the divisor is not 0, and not both are as they overflow
record IsDefined (w : ℕ) (a b : ℤ) : Type 0 where
  some : int_eq b (pos 0) ≡ false
  apart : a ≡ least w → b ≡ negsuc 0 → ⊥

is_defined : (w : ℕ) (a b : ℤ) → no_quotient (least w) a b ≡ false → IsDefined w a b
is_defined w a b e =
    let both : (int_eq b (pos 0) ≡ false) × ((int_eq a (least w) && int_eq b (negsuc 0)) ≡ false) = neither _ _ e in
    record { some = both.0; apart = λ p q. not_both _ _ both.1 ((Decides-int_eq a (least w)).1 p) ((Decides-int_eq b (negsuc 0)).1 q) }

above_zero : (b : ℤ) → int_eq b (pos 0) ≡ false → 0 < unsigned_abs b
above_zero (pos zero) e = absurd (true≢false e)
above_zero (pos (suc n)) e = omega arith
above_zero (negsuc n) e = omega arith

either_below : (H : ℕ) (b : Bool) (x y : ℤ) → (b ≡ true → mag x < H) → mag y < H → mag (if b then x else y) < H
either_below H true x y h k = h refl
either_below H false x y h k = k

module _ (w : ℕ) (h : 0 < w) (a b : ℕ) (d : IsDefined w (signed w a) (signed w b)) where
  small_quotient : mag (int_div (signed w a) (signed w b)) < 2 ^ (w - 1)
  small_quotient = quotient_below (signed w a) (signed w b) (2 ^ (w - 1)) (half_above w) (signed_fits w a h) (signed_fits w b h) d.some d.apart

  small_rest : mag (int_rem (signed w a) (signed w b)) < 2 ^ (w - 1)
  small_rest = omega (arith, mag_rem (signed w a) (signed w b), signed_fits w a h)

  small_up : mag (quotient_up (signed w a) (signed w b)) < 2 ^ (w - 1)
  small_up =
      either_below (2 ^ (w - 1)) (lies_below (signed w a) (signed w b)) _ _
      (λ low. up_below (signed w a) (signed w b) (2 ^ (w - 1)) (half_above w) (signed_fits w a h) (signed_fits w b h) d.some low) small_quotient

  small_down : mag (quotient_down (signed w a) (signed w b)) < 2 ^ (w - 1)
  small_down =
      either_below (2 ^ (w - 1)) (lies_above (signed w a) (signed w b)) _ _
      (λ high. down_below (signed w a) (signed w b) (2 ^ (w - 1)) (half_above w) (signed_fits w a h) (signed_fits w b h) d.some high) small_quotient

-- a result that is small is read back
read_back : (w : ℕ) (z : ℤ) (q : ℕ) → 0 < w → mag z < 2 ^ (w - 1) → q ≡ wrapped w z → z ≡ signed w q
read_back w z q h small e = sym (ap (signed w) e ∙ signed-wrapped w z h (fits_from w z small))

pub divides_towards_zero : DividesTowardsZero
divides_towards_zero w a b q r h eq er =
    let dq : (no_quotient (least w) (signed w a) (signed w b) ≡ false) × (q ≡ wrapped w (int_div (signed w a) (signed w b))) = defined _ _ q eq in
    let dr : (no_quotient (least w) (signed w a) (signed w b) ≡ false) × (r ≡ wrapped w (int_rem (signed w a) (signed w b))) = defined _ _ r er in
    let d : IsDefined w (signed w a) (signed w b) = is_defined w _ _ dq.0 in
    subst (λ y. IsDivision (signed w a) (signed w b) (signed w q) y) (read_back w _ r h (small_rest w h a b d) dr.1)
    (subst (λ x. IsDivision (signed w a) (signed w b) x (int_rem (signed w a) (signed w b))) (read_back w _ q h (small_quotient w h a b d) dq.1)
    (towards_zero (signed w a) (signed w b) (above_zero (signed w b) d.some)))

pub divides_up : DividesUp
divides_up w a b q h eq =
    let dq : (no_quotient (least w) (signed w a) (signed w b) ≡ false) × (q ≡ wrapped w (quotient_up (signed w a) (signed w b))) = defined _ _ q eq in
    let d : IsDefined w (signed w a) (signed w b) = is_defined w _ _ dq.0 in
    subst (λ x. IsRoundedUp (signed w a) (signed w b) x) (read_back w _ q h (small_up w h a b d) dq.1)
    (up_is (signed w a) (signed w b) (above_zero (signed w b) d.some))

pub divides_down : DividesDown
divides_down w a b q h eq =
    let dq : (no_quotient (least w) (signed w a) (signed w b) ≡ false) × (q ≡ wrapped w (quotient_down (signed w a) (signed w b))) = defined _ _ q eq in
    let d : IsDefined w (signed w a) (signed w b) = is_defined w _ _ dq.0 in
    subst (λ x. IsRoundedDown (signed w a) (signed w b) x) (read_back w _ q h (small_down w h a b d) dq.1)
    (down_is (signed w a) (signed w b) (above_zero (signed w b) d.some))
