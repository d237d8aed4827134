-- Offsets: sums of products modulo 2^w, and what they are as numbers of 64 bits.
use Rattle.std.proofs.Common.{◌≡◌, ℕ, ◌+◌, ◌*◌, ◌%◌, ◌^◌, ◌<◌, true, sym, ap, ap₂, ◌∙◌, arith}
use Rattle.std.specs.Prelude.{ℤ, pos, negsuc, ◌+ℤ◌, ◌*ℤ◌}
use Rattle.std.proofs.Math.Nat.{mod-mod, add-mod}
use Rattle.std.proofs.lemmas.Nat.{mul-mod}
use lib.Signed.{mag}
use Rattle.number_model.specs.Numbers.{unsigned, signed_below, signed, wrapped, fits_signed}
use Rattle.number_model.proofs.Signed.{signed-wrapped}
use Rattle.number_model.proofs.Ranges.{signed_fits}

-- a sum on with a product
pub offset_on : (w a sum i t : ℕ) → unsigned w a ≡ unsigned w sum
    → unsigned w (wrapped w (pos (unsigned w a) +ℤ pos (unsigned w (wrapped w (pos (unsigned w i) *ℤ pos (unsigned w t)))))) ≡ unsigned w (sum + i * t)
offset_on w a sum i t same =
    mod-mod (unsigned w a + unsigned w (unsigned w i * unsigned w t % 2 ^ w)) (2 ^ w)
    ∙ ap₂ (λ x y. (x + y) % 2 ^ w) same (mod-mod (unsigned w i * unsigned w t) (2 ^ w) ∙ sym (mul-mod i t (2 ^ w)))
    ∙ sym (add-mod sum (i * t) (2 ^ w))

-- numbers that are the same modulo 2^w are the same signed number
pub same_signed : (w a b : ℕ) → unsigned w a ≡ unsigned w b → signed w a ≡ signed w b
same_signed w a b same = ap (signed_below w) same

-- an extension to 64 bits keeps the signed number
fits_64 : (z : ℤ) → mag z < 2 ^ 31 → fits_signed 64 z ≡ true
fits_64 (pos n) h = grind arith
fits_64 (negsuc n) h = grind arith

pub extended : (a : ℕ) → signed 64 (wrapped 64 (signed 32 a)) ≡ signed 32 a
extended a = signed-wrapped 64 (signed 32 a) (omega arith) (fits_64 (signed 32 a) (signed_fits 32 a (omega arith)))
