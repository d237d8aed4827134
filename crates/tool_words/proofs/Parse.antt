-- What `parse` gives for the numbers of values.
use Rattle.std.proofs.Common.{rules, arith, ◌≡◌, ◌∙◌, ℕ, ℤ, pos, ◌==◌, ◌-◌, ◌^◌, ◌<◌, ◌≤◌, length, List, [], ◌∷◌, Some, None, Result, Ok, Err, Bool, true, false, refl, sym, ap, ap₂, nat_le}
use Rattle.std.specs.Prelude.{◌&&◌, if◌then◌else◌, option_map}
use Rattle.std.specs.Result.{OkIff, result_ok}
use Rattle.std.specs.List.{list_all}
use Rattle.std.specs.Int.{w128}
use Rattle.std.specs.Str.Parse.{ParsesSigned, ParsesUnsigned, digits_value}
use Rattle.std.proofs.lemmas.Bool.{eqb-true, leb-true, le-leb}
use Rattle.std.proofs.lemmas.Str.Parse.{IsDigitsTest, IsNumeralModel, numerals_by_value, parse_digits, parse_signed_digits, parse_signed_minus}
use Rattle.tool_words.specs.Numbers.{digits_of, integer_of, is_digit, is_digits, negated, number_in}

tells : IsDigitsTest (λ ds. list_all is_digit ds ≡ true)
tells = search rules

pub digits : IsNumeralModel (λ ds. list_all is_digit ds ≡ true) (digits_value 10)
digits = numerals_by_value _ tells

pub digits_given : (text : List ℕ) → is_digits text ≡ true → (0 < length text) × (list_all is_digit text ≡ true)
digits_given [] e = absurd cc
digits_given (b ∷ bs) e = (omega arith, e)

no_third : (a b : Bool) → (a && b && false) ≡ false
no_third true true = refl
no_third true false = refl
no_third false b = refl

pub number_none : (least most : ℕ) (text : List ℕ) → (digits_value 10 text ≤ most → ⊥) → number_in least most text ≡ None
number_none least most text over = go (nat_le (digits_value 10 text) most) refl
  where
    go : (b : Bool) → nat_le (digits_value 10 text) most ≡ b → number_in least most text ≡ None
    go true e = absurd (over (leb-true _ _ e))
    go false e =
        ap (λ (b : Bool). if is_digits text && nat_le least (digits_value 10 text) && b then Some (digits_value 10 text) else None) e
        ∙ ap (λ (b : Bool). if b then Some (digits_value 10 text) else None) (no_third (is_digits text) (nat_le least (digits_value 10 text)))

pub number_some : (most : ℕ) (text : List ℕ) → is_digits text ≡ true → digits_value 10 text ≤ most → number_in 0 most text ≡ Some (digits_value 10 text)
number_some most text d le =
    ap₂ (λ (a b : Bool). if a && nat_le 0 (digits_value 10 text) && b then Some (digits_value 10 text) else None) d (le-leb _ _ le)
    ∙ ap (λ (b : Bool). if true && b && true then Some (digits_value 10 text) else None) (le-leb 0 (digits_value 10 text) (omega arith))

-- a text of digits that is no number of 32 bits
pub number_unread : {E : Type 0} (least most : ℕ) (text : List ℕ) (r : Result ℕ E) → result_ok r ≡ None → ParsesUnsigned 32 10 text r → is_digits text ≡ true → most < 2 ^ 32
    → None ≡ number_in least most text
number_unread least most text (Ok x) is h d small = absurd cc
number_unread least most text (Err e) is h d small =
    let given = digits_given text d in
    let over = parse_digits digits 32 text (Err e) h given.1 in sym (number_none least most text (λ le. over (given.0, omega arith)))

-- the number of a text that is parsed by a number at most
of_parse : {E : Type 0} (f : ℕ → ℤ) (most : ℕ) (P : Type 0) (text : List ℕ) (r : Result ℤ E) → is_digits text ≡ true → (P → digits_value 10 text ≤ most)
    → (digits_value 10 text ≤ most → P) → OkIff r P (f (digits_value 10 text)) → result_ok r ≡ option_map f (number_in 0 most text)
of_parse f most P text (Ok x) d to from h = ap Some h.1 ∙ sym (ap (option_map f) (number_some most text d (to h.0)))
of_parse f most P text (Err e) d to from h = sym (ap (option_map f) (number_none 0 most text (λ le. h (from le))))

pub integer_parsed : {E : Type 0} (text : List ℕ) (r : Result ℤ E) → ParsesSigned w128 10 text r → is_digits (digits_of text) ≡ true → result_ok r ≡ integer_of text
integer_parsed [] r h d = absurd cc
integer_parsed (b ∷ bs) r h d = go (b == 45) refl d
  where
    go : (c : Bool) → (b == 45) ≡ c → is_digits (if c then bs else b ∷ bs) ≡ true
        → result_ok r ≡ (if b == 45 then option_map negated (number_in 0 (2 ^ 127) (if b == 45 then bs else b ∷ bs)) else option_map pos (number_in 0 (2 ^ 127 - 1) (if b == 45 then bs else b ∷ bs)))
    go true e g =
        let is = digits_given bs g in
        rw e (of_parse negated (2 ^ 127) _ bs r g (λ p. p.2) (λ le. (is.1, is.0, le)) (parse_signed_minus digits w128 (b ∷ bs) r h (eqb-true b 45 e)))
    go false e g =
        let is = digits_given (b ∷ bs) g in
        rw e (of_parse pos (2 ^ 127 - 1) _ (b ∷ bs) r g (λ p. omega arith) (λ le. (is.0, omega arith)) (parse_signed_digits digits w128 (b ∷ bs) r h is.1))
