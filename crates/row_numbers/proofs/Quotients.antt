-- Division with rounding by the quotient towards zero.
use Rattle.std.proofs.Common.{◌≡◌, ◌⊎◌, inl, inr, ℕ, zero, suc, ◌+◌, ◌*◌, ◌-◌, ◌/◌, ◌%◌, ◌^◌, ◌<◌, ◌≤◌, min, Bool, true, false, refl, sym, ap, ap₂, subst, ◌∙◌, true≢false, arith}
use Rattle.std.specs.Prelude.{ℤ, pos, negsuc, ◌+ℤ◌, ◌-ℤ◌, ◌*ℤ◌, ◌==◌, not, ◌&&◌, int_lt, int_div, int_rem, unsigned_abs, bit_and, if◌then◌else◌}
use Rattle.std.specs.Ordering.{int_eq}
use Rattle.std.specs.Int.{div_ceil}
use Rattle.std.proofs.lemmas.Bool.Decides.{Decides-int_eq}
use Rattle.std.proofs.lemmas.Int.{ints}
use Rattle.std.proofs.Math.Nat.{zero-div, zero-mod, div-le_self, mod-lt, div-add-mod', mod-eq_of_lt, div-eq_of_lt-le}
use lib.Signed.{mag, mag_rem}
use Rattle.number_model.specs.Numbers.{unsigned, signed, wrapped, fits_signed, least}
use Rattle.number_model.specs.Promises.{IsDivision}
use Rattle.number_model.proofs.Divisions.{towards_zero}
use Rattle.number_model.specs.Answers.{Answer, Gives, Undefined, Outside, undefined_if, and_then}
use Rattle.number_model.specs.Arithmetic.{have_unlike_signs, unlike, quotient_up, quotient_down, no_quotient, no_quotient_unsigned, Equal, Unequal, compares, bit, DivideUp, DivideDown, DivideUpUnsigned}
use Rattle.number_model.proofs.Signed.{signed-wrapped, two_halves, half_above, fits_pos}
use Rattle.std.proofs.Math.Pow.{pow_pos}
use Rattle.number_model.proofs.Ranges.{signed_fits}
use Rattle.row_numbers.specs.Sequences.{constant, selected, up, down, up_unsigned}
use Rattle.row_numbers.specs.Promises.{ComesFrom, Roundings}
use Rattle.row_numbers.proofs.Readings.{signed_kept, unsigned-wrapped, sum_of, difference_of, product_with}

-- a quotient times its divisor lies between zero and what is divided
times_below : (p r a : ℤ) → p +ℤ r ≡ a → mag r ≤ mag a → (r ≡ pos 0) ⊎ (int_lt r (pos 0) ≡ int_lt a (pos 0)) → mag p ≤ mag a
times_below (pos p) (pos r) (pos a) e le s = omega (arith, ints)
times_below (negsuc p) (pos r) (pos a) e le s = omega (arith, ints)
times_below (pos p) (pos r) (negsuc a) e le (inl none) = omega (arith, ints)
times_below (negsuc p) (pos r) (negsuc a) e le (inl none) = omega (arith, ints)
times_below p (pos r) (negsuc a) e le (inr same) = absurd (grind arith)
times_below p (negsuc r) (pos a) e le (inl none) = absurd (grind arith)
times_below p (negsuc r) (pos a) e le (inr same) = absurd (grind arith)
times_below (pos p) (negsuc r) (negsuc a) e le s = omega (arith, ints)
times_below (negsuc p) (negsuc r) (negsuc a) e le s = omega (arith, ints)

equal_is : (m n : ℕ) → m ≡ n → (m == n) ≡ true
equal_is m n e = grind arith

unequal_is : (m n : ℕ) → (m ≡ n → ⊥) → (m == n) ≡ false
unequal_is m n h = grind arith

-- whether two numbers are the same modulo 2^w, of two that fit
same_number : (w : ℕ) (x y : ℤ) → 0 < w → fits_signed w x ≡ true → fits_signed w y ≡ true → (wrapped w x == wrapped w y) ≡ int_eq x y
same_number w x y h fx fy = go (int_eq x y) refl
  where
    go : (b : Bool) → int_eq x y ≡ b → (wrapped w x == wrapped w y) ≡ b
    go true e = equal_is _ _ (ap (wrapped w) ((Decides-int_eq x y).0 e))
    go false e =
        unequal_is _ _ λ same.
        true≢false (sym ((Decides-int_eq x y).1 (sym (signed-wrapped w x h fx) ∙ ap (signed w) same ∙ signed-wrapped w y h fy)) ∙ e)

-- the two tests
gate : (d s : Bool) → (unsigned 1 (bit_and (unsigned 1 (bit d)) (unsigned 1 (bit s))) == 1) ≡ d && s
gate true true = refl
gate true false = refl
gate false true = refl
gate false false = refl

alike : (x y : Bool) → compares Equal 1 (bit x) (bit y) ≡ not (unlike x y)
alike true true = refl
alike true false = refl
alike false true = refl
alike false false = refl

not_alike : (x y : Bool) → compares Unequal 1 (bit x) (bit y) ≡ unlike x y
not_alike true true = refl
not_alike true false = refl
not_alike false true = refl
not_alike false false = refl

signed_zero : (w : ℕ) → 0 < w → signed w (constant w 0) ≡ pos 0
signed_zero w h = signed-wrapped w (pos 0) h (fits_pos w 0 (half_above w))

fits_small : (w : ℕ) (z : ℤ) → mag z < 2 ^ (w - 1) → fits_signed w z ≡ true
fits_small w (pos n) h = grind arith
fits_small w (negsuc n) h = grind arith

-- a sum of two is the first just where the other is 0
no_rest : (p r a : ℤ) → p +ℤ r ≡ a → int_eq a p ≡ int_eq r (pos 0)
no_rest p r a e = go (int_eq r (pos 0)) refl
  where
    go : (b : Bool) → int_eq r (pos 0) ≡ b → int_eq a p ≡ b
    go true z = (Decides-int_eq a p).1 (let none : r ≡ pos 0 = (Decides-int_eq r (pos 0)).0 z in omega (arith, ints))
    go false z = other (int_eq a p) refl
      where
        other : (c : Bool) → int_eq a p ≡ c → c ≡ false
        other true same = absurd (true≢false (sym ((Decides-int_eq r (pos 0)).1 (let is : a ≡ p = (Decides-int_eq a p).0 same in omega (arith, ints))) ∙ z))
        other false same = refl

-- whether there is a rest: the product of quotient and divisor is another number
rest_test : (w : ℕ) (a b : ℕ) → 0 < w → 0 < unsigned_abs (signed w b)
    → (unsigned w a == unsigned w (wrapped w (pos (unsigned w (wrapped w (int_div (signed w a) (signed w b)))) *ℤ pos (unsigned w b)))) ≡ int_eq (int_rem (signed w a) (signed w b)) (pos 0)
rest_test w a b h some =
    let p : ℤ = int_div (signed w a) (signed w b) *ℤ signed w b in
    let d : IsDivision (signed w a) (signed w b) (int_div (signed w a) (signed w b)) (int_rem (signed w a) (signed w b)) = towards_zero (signed w a) (signed w b) some in
    let le : mag p ≤ mag (signed w a) = times_below p (int_rem (signed w a) (signed w b)) (signed w a) d.sum (mag_rem (signed w a) (signed w b)) d.sign in
    ap₂ (λ m n. m == n) (sym (signed_kept w a)) (ap (unsigned w) (product_with w (int_div (signed w a) (signed w b)) b) ∙ unsigned-wrapped w p)
    ∙ same_number w (signed w a) p h (fits_small w (signed w a) (signed_fits w a h)) (fits_small w p (omega (arith, le, signed_fits w a h)))
    ∙ no_rest p (int_rem (signed w a) (signed w b)) (signed w a) d.sum

-- the choice between the quotient and the number one step on
step_chosen : (w : ℕ) (d s e t : Bool) (p q : ℕ) (x y : ℤ) → d ≡ e → s ≡ t → p ≡ wrapped w x → q ≡ wrapped w y
    → selected (bit_and (unsigned 1 (bit d)) (unsigned 1 (bit s))) p q ≡ wrapped w (if e && t then x else y)
step_chosen w d s e t p q x y hd hs hp hq =
    ap (λ c. if c then p else q) (gate d s ∙ ap₂ (λ m n. m && n) hd hs) ∙ go (e && t)
  where
    go : (c : Bool) → (if c then p else q) ≡ wrapped w (if c then x else y)
    go true = hp
    go false = hq

-- what an answer is that gives a number
Is : Answer ℕ → Type 0
Is (Gives x) = ⊥
Is Undefined = Unit {0}
Is Outside = ⊥

pub nothing_given : {r : ℕ} → Undefined ≡ Gives r → ⊥
unfolding Is
nothing_given e = subst Is e tt

-- two operations that are undefined where the same test holds
where_defined : (c : Bool) (q u r : ℕ) (next : ℕ → Answer ℕ) → (c ≡ false → next q ≡ Gives u) → undefined_if c (Gives u) ≡ Gives r → and_then (undefined_if c (Gives q)) next ≡ Gives r
where_defined true q u r next h e = absurd (nothing_given e)
where_defined false q u r next h e = h refl ∙ e

-- a divisor that is not 0
divisor : (l a b : ℤ) → no_quotient l a b ≡ false → 0 < unsigned_abs b
divisor l a (pos zero) e = absurd (true≢false e)
divisor l a (pos (suc n)) e = omega arith
divisor l a (negsuc n) e = omega arith

upward : ComesFrom DivideUp up
upward w a b r h =
    where_defined (no_quotient (least w) (signed w a) (signed w b)) _ (wrapped w (quotient_up (signed w a) (signed w b))) r _ λ c.
    ap Gives (step_chosen w _ _ (not (int_eq (int_rem (signed w a) (signed w b)) (pos 0))) (not (have_unlike_signs (signed w a) (signed w b))) _ _ (int_div (signed w a) (signed w b) +ℤ pos 1) (int_div (signed w a) (signed w b))
    (ap not (rest_test w a b h (divisor (least w) (signed w a) (signed w b) c)))
    (alike _ _ ∙ ap₂ (λ x y. not (unlike (int_lt (signed w a) x) (int_lt (signed w b) y))) (signed_zero w h) (signed_zero w h))
    (sum_of w (int_div (signed w a) (signed w b)) (pos 1))
    refl)

downward : ComesFrom DivideDown down
downward w a b r h =
    where_defined (no_quotient (least w) (signed w a) (signed w b)) _ (wrapped w (quotient_down (signed w a) (signed w b))) r _ λ c.
    ap Gives (step_chosen w _ _ (not (int_eq (int_rem (signed w a) (signed w b)) (pos 0))) (have_unlike_signs (signed w a) (signed w b)) _ _ (int_div (signed w a) (signed w b) -ℤ pos 1) (int_div (signed w a) (signed w b))
    (ap not (rest_test w a b h (divisor (least w) (signed w a) (signed w b) c)))
    (not_alike _ _ ∙ ap₂ (λ x y. unlike (int_lt (signed w a) x) (int_lt (signed w b) y)) (signed_zero w h) (signed_zero w h))
    (difference_of w (int_div (signed w a) (signed w b)) (pos 1))
    refl)

-- the quotient of one less: where there is no rest, and where there is one
of_multiple : (q b a : ℕ) → q * b ≡ a → 0 < a → 0 < b → (a - 1) / b + 1 ≡ q
of_multiple zero b a e ha hb = absurd (omega arith)
of_multiple (suc q) b a e ha hb =
    let is : (a - 1) / b ≡ q = div-eq_of_lt-le b (omega arith) (omega arith) in
    omega arith

of_other : (q b r a : ℕ) → q * b + suc r ≡ a → suc r < b → (a - 1) / b ≡ q
of_other q b r a e lt = div-eq_of_lt-le b (omega arith) (omega arith)

-- one more than the quotient of one less, of numbers above 0
one_less : (a b : ℕ) → 0 < a → 0 < b → (a - 1) / b + 1 ≡ div_ceil a b
one_less a b ha hb = go (a % b) refl
  where
    go : (r : ℕ) → a % b ≡ r → (a - 1) / b + 1 ≡ a / b + min 1 (a % b)
    go zero e = rw e (of_multiple (a / b) b a (omega (arith, div-add-mod' a b)) ha hb ∙ omega arith)
    go (suc r) e =
        let is : (a - 1) / b ≡ a / b = of_other (a / b) b r a (omega (arith, div-add-mod' a b)) (omega (arith, mod-lt a hb)) in
        rw e (omega arith)

-- up and unsigned, of two numbers below 2^w
module _ (w : ℕ) (h : 0 < w) where
  one_is : unsigned w (constant w 1) ≡ 1
  one_is = unsigned-wrapped w (pos 1) ∙ mod-eq_of_lt (omega (arith, two_halves w h, half_above w))

  -- one less of a number above 0
  less_is : (a : ℕ) → 0 < unsigned w a → unsigned w (wrapped w (pos (unsigned w a) -ℤ pos (unsigned w (constant w 1)))) ≡ unsigned w a - 1
  less_is a some =
      ap (λ n. unsigned w (wrapped w (pos (unsigned w a) -ℤ pos n))) one_is
      ∙ unsigned-wrapped w (pos (unsigned w a) -ℤ pos 1)
      ∙ ap (wrapped w) (one_down (unsigned w a) some)
      ∙ mod-eq_of_lt (omega (arith, mod-lt a (pow_pos w)))
    where
      one_down : (n : ℕ) → 0 < n → pos n -ℤ pos 1 ≡ pos (n - 1)
      one_down n some = omega (arith, ints)

  more_is : (q a : ℕ) → q + 1 ≤ unsigned w a → wrapped w (pos (unsigned w q) +ℤ pos (unsigned w (constant w 1))) ≡ q + 1
  more_is q a le =
      let lt : unsigned w a < 2 ^ w = mod-lt a (pow_pos w) in
      ap₂ (λ m n. (m + n) % 2 ^ w) (mod-eq_of_lt (omega arith)) one_is ∙ mod-eq_of_lt (omega arith)

  zero_is : constant w 0 ≡ 0
  zero_is = mod-eq_of_lt (pow_pos w)

  none_is : (a : ℕ) → (unsigned w a == unsigned w (constant w 0)) ≡ (unsigned w a == 0)
  none_is a = ap (λ n. unsigned w a == n) (unsigned-wrapped w (pos 0) ∙ zero_is)

  of_one_less : (a b : ℕ) → 0 < unsigned w b → (z : Bool) → (unsigned w a == 0) ≡ z
      → selected (bit z) (constant w 0) (wrapped w (pos (unsigned w (unsigned w (wrapped w (pos (unsigned w a) -ℤ pos (unsigned w (constant w 1)))) / unsigned w b)) +ℤ pos (unsigned w (constant w 1)))) ≡ div_ceil (unsigned w a) (unsigned w b)
  of_one_less a b some true e = zero_is ∙ sym (ap (λ n. div_ceil n (unsigned w b)) (from_equal (unsigned w a) e) ∙ of_none (unsigned w b))
    where
      from_equal : (n : ℕ) → (n == 0) ≡ true → n ≡ 0
      from_equal n e = grind arith

      of_none : (n : ℕ) → div_ceil 0 n ≡ 0
      of_none n = ap₂ (λ x y. x + min 1 y) (zero-div n) (zero-mod n)
  of_one_less a b some false e =
      let above : 0 < unsigned w a = above_none (unsigned w a) e in
      ap (λ m. wrapped w (pos (unsigned w (m / unsigned w b)) +ℤ pos (unsigned w (constant w 1)))) (less_is a above)
      ∙ more_is ((unsigned w a - 1) / unsigned w b) a (omega (arith, div-le_self (unsigned w a - 1) (unsigned w b)))
      ∙ one_less (unsigned w a) (unsigned w b) above some
    where
      above_none : (n : ℕ) → (n == 0) ≡ false → 0 < n
      above_none n e = grind arith

upward_unsigned : ComesFrom DivideUpUnsigned up_unsigned
upward_unsigned w a b r h =
    where_defined (no_quotient_unsigned w b) _ (div_ceil (unsigned w a) (unsigned w b)) r _ λ c.
    ap Gives (of_one_less w h a b (above (unsigned w b) c) (unsigned w a == unsigned w (constant w 0)) (sym (none_is w h a)))
  where
    above : (n : ℕ) → (n == 0) ≡ false → 0 < n
    above n e = grind arith

pub roundings : Roundings
roundings = record { upward = upward; downward = downward; upward_unsigned = upward_unsigned }
