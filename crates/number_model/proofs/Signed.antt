-- Signed numbers of a width: which integers they are.
use Rattle.std.proofs.Common.{◌≡◌, ℕ, zero, suc, ◌+◌, ◌-◌, ◌^◌, ◌<◌, ◌≤◌, true, false, ap, subst, ◌∙◌, arith}
use Rattle.std.specs.Prelude.{ℤ, pos, negsuc, nat_lt, if◌then◌else◌}
use Rattle.std.proofs.Math.Nat.{mod-eq_of_lt, mod-lt, two-pow-succ}
use Rattle.std.proofs.Math.Pow.{pow_pos}
use Rattle.number_model.specs.Numbers.{signed_below, signed, wrapped, fits_signed}

-- twice the half is the whole
pub two_halves : (w : ℕ) → 0 < w → 2 ^ w ≡ 2 ^ (w - 1) + 2 ^ (w - 1)
two_halves zero h = absurd (omega arith)
two_halves (suc w) h = subst (λ k. 2 ^ suc w ≡ 2 ^ k + 2 ^ k) (omega arith) (two-pow-succ w)

pub half_above : (w : ℕ) → 0 < 2 ^ (w - 1)
half_above w = pow_pos (w - 1)

below : (m n : ℕ) → m < n → nat_lt m n ≡ true
below m n h = grind arith

not_below : (m n : ℕ) → n ≤ m → nat_lt m n ≡ false
not_below m n h = grind arith

pub from_below : (m n : ℕ) → nat_lt m n ≡ true → m < n
from_below m n h = grind arith

pub fits_pos : (w n : ℕ) → n < 2 ^ (w - 1) → fits_signed w (pos n) ≡ true
fits_pos w n h = below n (2 ^ (w - 1)) h

-- a number that fits is read back
pub signed-wrapped : (w : ℕ) (z : ℤ) → 0 < w → fits_signed w z ≡ true → signed w (wrapped w z) ≡ z
signed-wrapped w (pos n) h fits =
    let lt : n < 2 ^ (w - 1) = from_below n (2 ^ (w - 1)) fits in
    let whole : n < 2 ^ w = omega (arith, two_halves w h) in
    ap (signed_below w) (mod-eq_of_lt (mod-lt n (omega arith)) ∙ mod-eq_of_lt whole)
    ∙ ap (λ b. if b then pos n else negsuc (2 ^ w - suc n)) fits
signed-wrapped w (negsuc n) h fits =
    let lt : n < 2 ^ (w - 1) = from_below n (2 ^ (w - 1)) fits in
    let whole : n < 2 ^ w = omega (arith, two_halves w h) in
    ap (λ k. signed w (2 ^ w - suc k)) (mod-eq_of_lt whole)
    ∙ ap (signed_below w) (mod-eq_of_lt (omega arith))
    ∙ ap (λ b. if b then pos (2 ^ w - suc n) else negsuc (2 ^ w - suc (2 ^ w - suc n))) (not_below (2 ^ w - suc n) (2 ^ (w - 1)) (omega (arith, two_halves w h)))
    ∙ ap negsuc (omega arith)
