-- Numbers that fit, as signed numbers.
use Rattle.std.proofs.Common.{◌≡◌, ℕ, zero, suc, ◌+◌, ◌-◌, ◌*◌, ◌^◌, ◌<◌, ◌≤◌, Bool, true, false, cond, refl, sym, subst, arith, true≢false}
use Rattle.std.specs.Prelude.{◌&&◌, nat_lt, nat_le, ℤ, pos, negsuc, ◌-ℤ◌, if◌then◌else◌}
use Rattle.std.specs.List.{list_all}
use Rattle.std.proofs.Math.Nat.{two-pow-succ}
use Rattle.std.proofs.lemmas.Nat.{pow_pos}
use Rattle.std.proofs.lemmas.Bool.Decides.{nat_tests}
use Rattle.mlir_lex.proofs.Lengths.{and-both, and-left, and-right}
use Rattle.term_table.specs.declared.node.Form.TheVariants as forms
use Rattle.term_table.specs.Terms.{Term, nothing, node}
use Rattle.rule_model.specs.Formed.{is_formed_type, is_number_of, is_signed}
use Rattle.event_trees.specs.Wording.{Wording}
use Rattle.event_trees.specs.Attrs.{bits_of, integer_type, negative, numbers_of, signed}
use Rattle.read_terms.proofs.Terms.{are_listed, bits_in, is_number_type, is_width}

-- between minus a half and a half of this
abbrev fits_in : ℕ → ℤ → Bool
fits_in whole (pos n) = nat_lt (2 * n) whole
fits_in whole (negsuc n) = nat_le (2 * (n + 1)) whole

signed_in : (w : ℕ) (z : ℤ) → fits_in (2 ^ w) z ≡ true → is_signed w z ≡ true
signed_in w (pos n) h = h
signed_in w (negsuc n) h = h

low_in : (half whole n : ℕ) → whole ≡ half + half → nat_lt n half ≡ true → nat_lt (2 * n) whole ≡ true
low_in half whole n e h = grind (arith, nat_tests)

high_in : (half whole n : ℕ) → whole ≡ half + half → nat_lt n half ≡ false → n < whole → fits_in whole (pos n -ℤ pos whole) ≡ true
high_in half zero n e h l = absurd (omega (arith, l))
high_in half (suc m) n e h l = by_test (nat_lt n (suc m)) refl
  where
    most : (k : ℕ) → k ≡ suc m - suc n → nat_le (2 * (k + 1)) (suc m) ≡ true
    most k is = let low : half ≤ n = grind (arith, nat_tests) in let less : 2 * (k + 1) ≤ suc m = omega (arith, is, e, low, l) in grind (arith, nat_tests)

    by_test : (b : Bool) → nat_lt n (suc m) ≡ b → fits_in (suc m) (cond b (negsuc (suc m - suc n)) (pos (n - suc m))) ≡ true
    by_test true q = most (suc m - suc n) refl
    by_test false q = absurd (not_less n (suc m) q l)
      where
        not_less : (a b : ℕ) → nat_lt a b ≡ false → a < b → ⊥
        not_less a b q l = grind (arith, nat_tests)

minus_in : (half whole n : ℕ) → whole ≡ half + half → 0 < half → nat_le n half ≡ true → fits_in whole (negative n) ≡ true
minus_in half whole zero e p h = zero_in half whole e p
  where
    zero_in : (half whole : ℕ) → whole ≡ half + half → 0 < half → nat_lt 0 whole ≡ true
    zero_in half whole e p = grind (arith, nat_tests)
minus_in half whole (suc n) e p h = by_test (nat_lt 0 (suc n)) refl
  where
    most : (k : ℕ) → k ≡ suc n - suc 0 → nat_le (2 * (k + 1)) whole ≡ true
    most k is = let low : suc n ≤ half = grind (arith, nat_tests) in let less : 2 * (k + 1) ≤ whole = omega (arith, is, e, low) in grind (arith, nat_tests)

    by_test : (b : Bool) → nat_lt 0 (suc n) ≡ b → fits_in whole (cond b (negsuc (suc n - suc 0)) (pos (0 - suc n))) ≡ true
    by_test true q = most (suc n - suc 0) refl
    by_test false q = absurd (none_less n q)
      where
        none_less : (n : ℕ) → nat_lt 0 (suc n) ≡ false → ⊥
        none_less n q = grind (arith, nat_tests)

two_halves : (w : ℕ) → 0 < w → 2 ^ w ≡ 2 ^ (w - 1) + 2 ^ (w - 1)
two_halves zero h = absurd (omega (arith, h))
two_halves (suc w) h = subst (λ k. 2 ^ suc w ≡ 2 ^ k + 2 ^ k) (omega arith) (two-pow-succ w)

is_less : (m n : ℕ) → nat_lt m n ≡ true → m < n
is_less m n h = grind (arith, nat_tests)

pub signed_fits : (w n : ℕ) → 0 < w → nat_lt n (2 ^ w) ≡ true → is_signed w (signed w n) ≡ true
signed_fits w n p h = signed_in w (signed w n) (by_half (nat_lt n (2 ^ (w - 1))) refl)
  where
    by_half : (b : Bool) → nat_lt n (2 ^ (w - 1)) ≡ b → fits_in (2 ^ w) (if b then pos n else pos n -ℤ pos (2 ^ w)) ≡ true
    by_half true e = low_in (2 ^ (w - 1)) (2 ^ w) n (two_halves w p) e
    by_half false e = high_in (2 ^ (w - 1)) (2 ^ w) n (two_halves w p) e (is_less n (2 ^ w) h)

pub negative_fits : (w n : ℕ) → 0 < w → nat_le n (2 ^ (w - 1)) ≡ true → is_signed w (negative n) ≡ true
negative_fits w n p h = signed_in w (negative n) (minus_in (2 ^ (w - 1)) (2 ^ w) n (two_halves w p) (pow_pos (w - 1)) h)

width_positive : (w : ℕ) → is_width w ≡ true → 0 < w
width_positive w h = grind (arith, nat_tests)

-- a number of its type
pub number_fits : (n : ℕ) (t : Term) → is_number_type t ≡ true → nat_lt n (2 ^ bits_in t) ≡ true → (is_formed_type (integer_type t) && is_number_of (integer_type t) (signed (bits_of t) n)) ≡ true
number_fits n nothing h k = and-both _ _ refl (signed_fits 64 n (omega arith) k)
number_fits n (node forms.Int w left right) h k = and-both _ _ h (signed_fits w n (width_positive w h) k)
number_fits n (node forms.Index w left right) h k = and-both _ _ refl (signed_fits 64 n (omega arith) k)
number_fits n (node _ w left right) h k = absurd (true≢false (sym h))

pub minus_fits : (n : ℕ) (t : Term) → is_number_type t ≡ true → nat_le n (2 ^ (bits_in t - 1)) ≡ true → (is_formed_type (integer_type t) && is_number_of (integer_type t) (negative n)) ≡ true
minus_fits n nothing h k = and-both _ _ refl (negative_fits 64 n (omega arith) k)
minus_fits n (node forms.Int w left right) h k = and-both _ _ h (negative_fits w n (width_positive w h) k)
minus_fits n (node forms.Index w left right) h k = and-both _ _ refl (negative_fits 64 n (omega arith) k)
minus_fits n (node _ w left right) h k = absurd (true≢false (sym h))

-- the numbers of an array
pub array_fits : (words : Wording) (bits : ℕ) (t : Term) → 0 < bits → are_listed words.number bits t ≡ true → list_all (is_signed bits) (numbers_of words bits t) ≡ true
array_fits words bits (node forms.Listed name more right) p h =
    and-both _ _ (signed_fits bits (words.number name) p (and-left _ _ h)) (array_fits words bits more p (and-right (nat_lt (words.number name) (2 ^ bits)) _ h))
array_fits words bits (node forms.ListedMinus n (node forms.Listed name more right) r) p h =
    and-both _ _ (negative_fits bits (words.number name) p (and-left _ _ h)) (array_fits words bits more p (and-right (nat_le (words.number name) (2 ^ (bits - 1))) _ h))
array_fits words bits _ p h = refl
