-- Numbers in decimal, read back.
use Rattle.std.proofs.Common.{◌≡◌, ℕ, zero, suc, ◌+◌, ◌*◌, ◌%◌, ◌^◌, ◌<◌, ◌≤◌, Bool, true, false, ◌==◌, ◌&&◌, List, [], ◌∷◌, ◌++◌, Option, Some, None, refl, sym, ap, ◌∙◌, subst, arith}
use Rattle.std.specs.Prelude.{codes, decimal, nat_le}
use Rattle.std.specs.Fmt.{digits}
use Rattle.std.specs.Str.{bytes_eq}
use Rattle.std.proofs.lemmas.Bool.{false≢true}
use Rattle.std.proofs.lemmas.Bool.Decides.{nat_tests}
use Rattle.std.proofs.lemmas.Fmt.{decimal_by_steps_wide}
use Rattle.mlir_lex.specs.Bytes.{is_digit}
use Rattle.mlir_lex.specs.Tokens.{is_run}
use Rattle.mlir_lex.proofs.Lengths.{and-left, and-right, eqb-is}
use Rattle.text_grammar.specs.TokenKinds.{value_from, digit_value}
use Rattle.text_events.specs.Source.{capped_value, is_hexadecimal, number_in}
use Rattle.printed_words.proofs.WordLemmas.{decimal-digits}
use Rattle.printed_terms.specs.Told.{width_in, size_in}

digit_is : (d : ℕ) → d < 10 → digit_value (48 + d) ≡ d
digit_is d h = grind (arith, nat_tests)

zero_plus : (n : ℕ) → 0 + n ≡ n
zero_plus n = omega arith

value_one : (d : ℕ) → d < 10 → value_from 10 0 ((48 + d) ∷ []) ≡ d
value_one d h = zero_plus (digit_value (48 + d)) ∙ digit_is d h

value_more : (v d : ℕ) (ds : List ℕ) → d < 10 → value_from 10 v (ds ++ (48 + d) ∷ []) ≡ value_from 10 v ds * 10 + d
value_more v d [] h = ap (λ n. v * 10 + n) (digit_is d h)
value_more v d (c ∷ ds) h = value_more (v * 10 + digit_value c) d ds h

value_is : (n : ℕ) → n < 10 ^ 64 → value_from 10 0 (decimal n) ≡ n
value_is n h =
    decimal_by_steps_wide (λ m ds. value_from 10 0 ds ≡ m) (λ m l. value_one m l)
    (λ m ds l r. value_more 0 (m % 10) ds (omega arith) ∙ ap (λ k. k * 10 + m % 10) r ∙ omega arith) n h

capped_is : (bytes : List ℕ) (n : ℕ) → n < 2 ^ 64 → value_from 10 0 bytes ≡ n → capped_value 10 bytes ≡ n
capped_is bytes n h e =
    let few : nat_le (2 ^ 128) (value_from 10 0 bytes) ≡ false = rw e (grind (arith, nat_tests)) in
    rw few e

pub decimal_capped : (n : ℕ) → n < 2 ^ 64 → capped_value 10 (decimal n) ≡ n
decimal_capped n h = capped_is (decimal n) n h (value_is n (omega arith))

-- digits are no hexadecimal number and no `?`
digit_x : (b : ℕ) → is_digit b ≡ true → (b == 120) ≡ false
unfolding is_digit
digit_x b h = grind (arith, nat_tests)

digit_question : (b : ℕ) → is_digit b ≡ true → (b == 63) ≡ false
unfolding is_digit
digit_question b h = grind (arith, nat_tests)

and_false : (s t : Bool) → t ≡ false → (s && t) ≡ false
and_false true t h = h
and_false false t h = refl

no_hex : (ds : List ℕ) → is_run is_digit ds ≡ true → is_hexadecimal ds ≡ false
unfolding is_run
no_hex [] h = refl
no_hex (a ∷ []) h = refl
no_hex (a ∷ b ∷ ds) h = and_false (a == 48) (b == 120) (digit_x b (and-left _ _ (and-right (is_digit a) _ h)))

pub decimal_number : (n : ℕ) → n < 2 ^ 64 → number_in (decimal n) ≡ n
decimal_number n h = rw (no_hex (decimal n) (decimal-digits n (omega arith))) (decimal_capped n h)

no_question : (ds : List ℕ) → is_run is_digit ds ≡ true → bytes_eq ds (codes "?") ≡ false
unfolding is_run
no_question [] h = absurd (false≢true h)
no_question (b ∷ ds) h = rw (digit_question b (and-left _ _ h)) refl

pub decimal_size : (n : ℕ) → n < 2 ^ 64 → size_in (decimal n) ≡ Some n
decimal_size n h = rw (no_question (decimal n) (decimal-digits n (omega arith)), decimal_capped n h) refl

-- widths
abbrev same_width : Option ℕ → ℕ → Bool
same_width None w = false
same_width (Some v) w = v == w

abbrev all_below : ℕ → (ℕ → Bool) → Bool
all_below zero p = true
all_below (suc n) p = p n && all_below n p

one_below : (n w : ℕ) (p : ℕ → Bool) → all_below n p ≡ true → w < n → p w ≡ true
one_below zero w p h l = absurd (omega arith)
one_below (suc n) w p h l = by_test (w == n) refl (λ k. one_below n w p (and-right (p n) _ h) k)
  where
    by_test : (t : Bool) → (w == n) ≡ t → (w < n → p w ≡ true) → p w ≡ true
    by_test true e deep = subst (λ m. p m ≡ true) (sym (eqb-is w n e)) (and-left (p n) _ h)
    by_test false e deep = deep (grind (arith, nat_tests))

widths_agree : all_below 65 (λ w. same_width (width_in (codes "i" ++ decimal w)) w) ≡ true
unfolding digits
widths_agree = refl

same_some : (o : Option ℕ) (w : ℕ) → same_width o w ≡ true → o ≡ Some w
same_some None w h = absurd (false≢true h)
same_some (Some v) w h = ap Some (eqb-is v w h)

pub width_is : (w : ℕ) → w ≤ 64 → width_in (codes "i" ++ decimal w) ≡ Some w
width_is w few = same_some (width_in (codes "i" ++ decimal w)) w (one_below 65 w (λ w. same_width (width_in (codes "i" ++ decimal w)) w) widths_agree (omega arith))
