-- Numbers that are not out of their ranges.
use Rattle.std.proofs.Common.{◌≡◌, ℕ, zero, suc, ◌+◌, ◌-◌, ◌^◌, ◌<◌, Bool, true, false, Option, Some, None, refl, sym, ap, ◌∙◌, subst, arith, true≢false}
use Rattle.std.specs.Prelude.{nat_lt, nat_le, min, if◌then◌else◌}
use Rattle.std.proofs.Math.Nat.{two-pow-succ}
use Rattle.std.proofs.lemmas.Nat.{pow_pos}
use Rattle.std.proofs.lemmas.Bool.Decides.{nat_tests}
use Rattle.term_table.specs.declared.node.Form.TheVariants as forms
use Rattle.term_table.specs.Terms.{Term, nothing, node}
use Rattle.text_events.specs.Language.{if_ninth}
use Rattle.text_types.specs.Actions.{capped}
use Rattle.type_kinds.specs.Ranges.{is_long_size, narrow, term_width, unfits, written_width}
use Rattle.read_terms.proofs.Terms.{bits_in, is_integer, is_number_type, is_width}
use Rattle.read_terms.proofs.Actions.{is_sized}

two_halves : (w : ℕ) → 0 < w → 2 ^ w ≡ 2 ^ (w - 1) + 2 ^ (w - 1)
two_halves zero h = absurd (omega (arith, h))
two_halves (suc w) h = subst (λ k. 2 ^ suc w ≡ 2 ^ k + 2 ^ k) (omega arith) (two-pow-succ w)

-- behind a minus
pub fits_minus : (w n : ℕ) → unfits true w n ≡ false → nat_le n (2 ^ (w - 1)) ≡ true
fits_minus w n h = grind (arith, nat_tests)

-- whether behind a minus or not
pub fits : (minus : Bool) (w n : ℕ) → 0 < w → unfits minus w n ≡ false → nat_lt n (2 ^ w) ≡ true
fits false w n p h = grind (arith, nat_tests)
fits true w n p h =
    let e : 2 ^ w ≡ 2 ^ (w - 1) + 2 ^ (w - 1) = two_halves w p in
    let q : 0 < 2 ^ (w - 1) = pow_pos (w - 1) in
    by_halves (2 ^ (w - 1)) (2 ^ w) e q h
  where
    by_halves : (half whole : ℕ) → whole ≡ half + half → 0 < half → nat_lt half n ≡ false → nat_lt n whole ≡ true
    by_halves half whole e q h = grind (arith, nat_tests)

width_positive : (w : ℕ) → is_width w ≡ true → 0 < w
width_positive w h = grind (arith, nat_tests)

width_narrow : (w : ℕ) → is_width w ≡ true → narrow w ≡ w
width_narrow w h = grind (arith, nat_tests)

pub bits_positive : (t : Term) → is_integer t ≡ true → 0 < bits_in t
bits_positive (node forms.Int w left right) h = width_positive w h
bits_positive (node forms.Index w left right) h = omega arith
bits_positive _ h = absurd (true≢false (sym h))

pub is_typed : (t : Term) → is_integer t ≡ true → is_number_type t ≡ true
is_typed nothing h = absurd (true≢false (sym h))
is_typed (node form value left right) h = h

-- the width of an integer type that is written, and of one of an alias
pub written_narrow : (w : ℕ) → is_sized (Some w) ≡ true → written_width (Some w) ≡ w
written_narrow w h = width_narrow w h

pub term_narrow : (t : Term) → is_integer t ≡ true → term_width t ≡ bits_in t
term_narrow (node forms.Int w left right) h = width_narrow w h
term_narrow (node forms.Index w left right) h = refl
term_narrow _ h = absurd (true≢false (sym h))

pub written_positive : (o : Option ℕ) → is_sized o ≡ true → nat_lt 0 (written_width o) ≡ true
written_positive None h = refl
written_positive (Some w) h = ap (nat_lt 0) (written_narrow w h) ∙ first w h
  where
    first : (w : ℕ) → is_width w ≡ true → nat_lt 0 w ≡ true
    first w h = grind (arith, nat_tests)

-- Sizes

pub size_below : (size : ℕ) → is_long_size (Some size) ≡ false → nat_lt (capped size) (2 ^ 63) ≡ true
size_below size h = by_limits 9223372036854775808 18446744073709551615 size h
  where
    by_limits : (m k size : ℕ) → nat_le m size ≡ false → nat_lt (min size k) m ≡ true
    by_limits m k size h = grind (arith, nat_tests)

pub not_ninth : (n : ℕ) → if_ninth (nat_le 8 n) ≡ None → n < 8
not_ninth n h = by_test (nat_le 8 n) refl h
  where
    by_test : (b : Bool) → nat_le 8 n ≡ b → if_ninth b ≡ None → n < 8
    by_test true e h = absurd cc
    by_test false e h = grind (arith, nat_tests)

pub one_size : (n m : ℕ) → n < 8 → m ≡ (if nat_lt n 8 then n + 1 else n) → m ≡ n + 1
one_size n m h e = e ∙ ap (λ b. if b then n + 1 else n) (below n h)
  where
    below : (n : ℕ) → n < 8 → nat_lt n 8 ≡ true
    below n h = grind (arith, nat_tests)
