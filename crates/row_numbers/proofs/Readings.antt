-- Numbers of a width and the signed numbers that they are read as.
use Rattle.std.proofs.Common.{◌≡◌, ℕ, suc, ◌-◌, ◌^◌, ◌<◌, Bool, true, false, sym, ap, ◌∙◌, arith}
use Rattle.std.specs.Prelude.{ℤ, pos, negsuc, ◌+ℤ◌, ◌-ℤ◌, ◌*ℤ◌, nat_lt, if◌then◌else◌}
use Rattle.std.proofs.Math.Nat.{mod-lt, mod-mod, mod-eq_of_lt}
use Rattle.std.proofs.Math.Pow.{pow_pos}
use Rattle.number_model.specs.Numbers.{unsigned, signed_below, signed, wrapped}
use Rattle.number_model.specs.Answers.{Answer, Gives, Undefined, Outside}
use Rattle.number_model.proofs.Wrapping.{sums_wrap, differences_wrap, products_wrap}
use Rattle.row_numbers.specs.Promises.{KeepsConstants}

-- a number below 2^w is the one that its signed reading wraps to
below_kept : (w u : ℕ) → u < 2 ^ w → wrapped w (signed_below w u) ≡ u
below_kept w u lt = go (nat_lt u (2 ^ (w - 1)))
  where
    go : (b : Bool) → wrapped w (if b then pos u else negsuc (2 ^ w - suc u)) ≡ u
    go true = mod-eq_of_lt lt
    go false = ap (λ k. 2 ^ w - suc k) (mod-eq_of_lt (omega (arith, pow_pos w))) ∙ omega arith

pub signed_kept : (w a : ℕ) → wrapped w (signed w a) ≡ unsigned w a
signed_kept w a = below_kept w (unsigned w a) (mod-lt a (pow_pos w))

wrapped_below : (w : ℕ) (z : ℤ) → wrapped w z < 2 ^ w
wrapped_below w (pos n) = mod-lt n (pow_pos w)
wrapped_below w (negsuc n) = omega (arith, pow_pos w)

pub unsigned-wrapped : (w : ℕ) (z : ℤ) → unsigned w (wrapped w z) ≡ wrapped w z
unsigned-wrapped w z = mod-eq_of_lt (wrapped_below w z)

pub keeps_constants : KeepsConstants
keeps_constants w z h = signed_kept w (wrapped w z) ∙ unsigned-wrapped w z

-- what is given
abbrev pub given : Answer ℕ → ℕ
given (Gives x) = x
given Undefined = 0
given Outside = 0

-- sums, differences and products of numbers of a width, by the integers that they come from
pub sum_of : (w : ℕ) (x y : ℤ) → wrapped w (pos (unsigned w (wrapped w x)) +ℤ pos (unsigned w (wrapped w y))) ≡ wrapped w (x +ℤ y)
sum_of w x y = ap given (sums_wrap w x y)

pub difference_of : (w : ℕ) (x y : ℤ) → wrapped w (pos (unsigned w (wrapped w x)) -ℤ pos (unsigned w (wrapped w y))) ≡ wrapped w (x -ℤ y)
difference_of w x y = ap given (differences_wrap w x y)

pub product_of : (w : ℕ) (x y : ℤ) → wrapped w (pos (unsigned w (wrapped w x)) *ℤ pos (unsigned w (wrapped w y))) ≡ wrapped w (x *ℤ y)
product_of w x y = ap given (products_wrap w x y)

-- a product with a number that is read as it stands
pub product_with : (w : ℕ) (x : ℤ) (b : ℕ) → wrapped w (pos (unsigned w (wrapped w x)) *ℤ pos (unsigned w b)) ≡ wrapped w (x *ℤ signed w b)
product_with w x b =
    ap (λ n. wrapped w (pos (unsigned w (wrapped w x)) *ℤ pos n)) (sym (ap (unsigned w) (signed_kept w b) ∙ mod-mod b (2 ^ w)))
    ∙ product_of w x (signed w b)
