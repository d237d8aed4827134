-- Division by signed numbers, over the integers and then at a width.
use Rattle.std.proofs.Common.{◌≡◌, inl, inr, ℕ, zero, suc, ◌-◌, ◌%◌, ◌<◌, Bool, true, false, refl, sym, ap, subst, ◌∙◌, true≢false, arith}
use Rattle.std.specs.Prelude.{ℤ, pos, negsuc, neg_ℤ, ◌+ℤ◌, ◌-ℤ◌, ◌*ℤ◌, not, ◌&&◌, int_lt, int_div, int_rem, unsigned_abs, if◌then◌else◌}
use Rattle.std.specs.Ordering.{int_eq}
use Rattle.std.proofs.lemmas.Bool.Decides.{Decides-int_eq}
use Rattle.std.proofs.lemmas.Int.{ints, quot-rem, rem_below}
use Rattle.std.proofs.Math.IntN.{suc_ℤ-*ℤ, pred_ℤ-*ℤ, +ℤ_one, -ℤ_one}
use Rattle.number_model.specs.Arithmetic.{have_unlike_signs, quotient_up, quotient_down}
use Rattle.number_model.specs.Promises.{HasSignOf, IsDivision, IsRoundedUp, IsRoundedDown}

-- the remainder has the sign of what is divided
rem_sign : (a b : ℤ) → HasSignOf (int_rem a b) a
rem_sign (pos a) b = inr (grind arith)
rem_sign (negsuc a) b = go (suc a % unsigned_abs b)
  where
    go : (n : ℕ) → HasSignOf (neg_ℤ (pos n)) (negsuc a)
    go zero = inl refl
    go (suc n) = inr refl

pub towards_zero : (a b : ℤ) → 0 < unsigned_abs b → IsDivision a b (int_div a b) (int_rem a b)
towards_zero a b h = record { sum = quot-rem a b; less = rem_below a b h; sign = rem_sign a b }

-- the product with one more and one less
one_more : (q b : ℤ) → (q +ℤ pos 1) *ℤ b ≡ q *ℤ b +ℤ b
one_more q b = ap (λ x. x *ℤ b) (+ℤ_one q) ∙ suc_ℤ-*ℤ q b

one_less : (q b : ℤ) → (q -ℤ pos 1) *ℤ b ≡ q *ℤ b -ℤ b
one_less q b = ap (λ x. x *ℤ b) (-ℤ_one q) ∙ pred_ℤ-*ℤ q b

neg_sign : (a b r : ℤ) → (r ≡ pos 0 → ⊥) → int_lt r (pos 0) ≡ int_lt a (pos 0) → have_unlike_signs a b ≡ true → int_lt (neg_ℤ r) (pos 0) ≡ int_lt b (pos 0)
neg_sign a b (pos zero) some same apart = absurd (some refl)
neg_sign (pos a) (pos b) (pos (suc r)) some same apart = grind arith
neg_sign (pos a) (negsuc b) (pos (suc r)) some same apart = grind arith
neg_sign (negsuc a) b (pos (suc r)) some same apart = grind arith
neg_sign (pos a) b (negsuc r) some same apart = grind arith
neg_sign (negsuc a) (pos b) (negsuc r) some same apart = grind arith
neg_sign (negsuc a) (negsuc b) (negsuc r) some same apart = grind arith

rest_sign : (a b r : ℤ) → (r ≡ pos 0 → ⊥) → unsigned_abs r < unsigned_abs b → int_lt r (pos 0) ≡ int_lt a (pos 0) → have_unlike_signs a b ≡ false
    → (unsigned_abs (b -ℤ r) < unsigned_abs b) × (int_lt (b -ℤ r) (pos 0) ≡ int_lt b (pos 0))
rest_sign a b (pos zero) some less same apart = absurd (some refl)
rest_sign (pos a) (pos b) (pos (suc r)) some less same apart =
    let e : pos b -ℤ pos (suc r) ≡ pos (b - suc r) = omega (arith, ints) in
    rw e (omega arith, grind arith)
rest_sign (pos a) (negsuc b) (pos (suc r)) some less same apart = grind arith
rest_sign (negsuc a) b (pos (suc r)) some less same apart = grind arith
rest_sign (pos a) b (negsuc r) some less same apart = grind arith
rest_sign (negsuc a) (pos b) (negsuc r) some less same apart = grind arith
rest_sign (negsuc a) (negsuc b) (negsuc r) some less same apart =
    let e : negsuc b -ℤ negsuc r ≡ negsuc (b - suc r) = omega (arith, ints) in
    rw e (omega arith, refl)

sum_neg : (p r a : ℤ) → p +ℤ r ≡ a → p ≡ a +ℤ neg_ℤ r
sum_neg p r a e = omega (arith, ints)

sum_rest : (p b r a : ℤ) → p +ℤ r ≡ a → p +ℤ b ≡ a +ℤ (b -ℤ r)
sum_rest p b r a e = omega (arith, ints)

sum_less : (p b r a : ℤ) → p +ℤ r ≡ a → (p -ℤ b) +ℤ (r +ℤ b) ≡ a
sum_less p b r a e = omega (arith, ints)

abs_neg : (r : ℤ) → unsigned_abs (neg_ℤ r) ≡ unsigned_abs r
abs_neg r = omega (arith, ints)

-- the same where the signs are not the same
other_sign : (a b r : ℤ) → (r ≡ pos 0 → ⊥) → unsigned_abs r < unsigned_abs b → int_lt r (pos 0) ≡ int_lt a (pos 0) → have_unlike_signs a b ≡ true
    → (unsigned_abs (r +ℤ b) < unsigned_abs b) × (int_lt (r +ℤ b) (pos 0) ≡ int_lt b (pos 0))
other_sign a b (pos zero) some less same apart = absurd (some refl)
other_sign (pos a) (pos b) (pos (suc r)) some less same apart = grind arith
other_sign (pos a) (negsuc b) (pos (suc r)) some less same apart =
    let e : pos (suc r) +ℤ negsuc b ≡ negsuc (b - suc r) = omega (arith, ints) in
    rw e (omega arith, refl)
other_sign (negsuc a) b (pos (suc r)) some less same apart = grind arith
other_sign (pos a) b (negsuc r) some less same apart = grind arith
other_sign (negsuc a) (pos b) (negsuc r) some less same apart =
    let e : negsuc r +ℤ pos b ≡ pos (b - suc r) = omega (arith, ints) in
    rw e (omega arith, grind arith)
other_sign (negsuc a) (negsuc b) (negsuc r) some less same apart = grind arith

same_sign : (a b r : ℤ) → int_lt r (pos 0) ≡ int_lt a (pos 0) → have_unlike_signs a b ≡ false → int_lt r (pos 0) ≡ int_lt b (pos 0)
same_sign (pos a) (pos b) (pos r) same apart = grind arith
same_sign (pos a) (negsuc b) r same apart = grind arith
same_sign (negsuc a) (pos b) r same apart = grind arith
same_sign (pos a) (pos b) (negsuc r) same apart = grind arith
same_sign (negsuc a) (negsuc b) r same apart = same

-- the sign of a remainder that is not 0
the_sign : (a r : ℤ) → (r ≡ pos 0 → ⊥) → HasSignOf r a → int_lt r (pos 0) ≡ int_lt a (pos 0)
the_sign a r some (inl none) = absurd (some none)
the_sign a r some (inr same) = same

rounds_up : (a b q r : ℤ) → q *ℤ b +ℤ r ≡ a → unsigned_abs r < unsigned_abs b → HasSignOf r a
    → (none : Bool) → int_eq r (pos 0) ≡ none → (apart : Bool) → have_unlike_signs a b ≡ apart
    → IsRoundedUp a b (if (not none && not apart) then q +ℤ pos 1 else q)
rounds_up a b q r sum less sign true z apart u =
    let zero_is : r ≡ pos 0 = (Decides-int_eq r (pos 0)).0 z in
    record { more = neg_ℤ r; sum = sum_neg (q *ℤ b) r a sum; less = subst (λ n. n < unsigned_abs b) (sym (abs_neg r)) less; sign = inl (ap neg_ℤ zero_is) }
rounds_up a b q r sum less sign false z true u =
    let some : r ≡ pos 0 → ⊥ = λ e. true≢false (sym ((Decides-int_eq r (pos 0)).1 e) ∙ z) in
    record { more = neg_ℤ r; sum = sum_neg (q *ℤ b) r a sum; less = subst (λ n. n < unsigned_abs b) (sym (abs_neg r)) less; sign = inr (neg_sign a b r some (the_sign a r some sign) u) }
rounds_up a b q r sum less sign false z false u =
    let some : r ≡ pos 0 → ⊥ = λ e. true≢false (sym ((Decides-int_eq r (pos 0)).1 e) ∙ z) in
    let rest : (unsigned_abs (b -ℤ r) < unsigned_abs b) × (int_lt (b -ℤ r) (pos 0) ≡ int_lt b (pos 0)) = rest_sign a b r some less (the_sign a r some sign) u in
    record { more = b -ℤ r; sum = one_more q b ∙ sum_rest (q *ℤ b) b r a sum; less = rest.0; sign = inr rest.1 }

rounds_down : (a b q r : ℤ) → q *ℤ b +ℤ r ≡ a → unsigned_abs r < unsigned_abs b → HasSignOf r a
    → (none : Bool) → int_eq r (pos 0) ≡ none → (apart : Bool) → have_unlike_signs a b ≡ apart
    → IsRoundedDown a b (if (not none && apart) then q -ℤ pos 1 else q)
rounds_down a b q r sum less sign true z apart u =
    record { more = r; sum = sum; less = less; sign = inl ((Decides-int_eq r (pos 0)).0 z) }
rounds_down a b q r sum less sign false z false u =
    let some : r ≡ pos 0 → ⊥ = λ e. true≢false (sym ((Decides-int_eq r (pos 0)).1 e) ∙ z) in
    record { more = r; sum = sum; less = less; sign = inr (same_sign a b r (the_sign a r some sign) u) }
rounds_down a b q r sum less sign false z true u =
    let some : r ≡ pos 0 → ⊥ = λ e. true≢false (sym ((Decides-int_eq r (pos 0)).1 e) ∙ z) in
    let rest : (unsigned_abs (r +ℤ b) < unsigned_abs b) × (int_lt (r +ℤ b) (pos 0) ≡ int_lt b (pos 0)) = other_sign a b r some less (the_sign a r some sign) u in
    record { more = r +ℤ b; sum = ap (λ x. x +ℤ (r +ℤ b)) (one_less q b) ∙ sum_less (q *ℤ b) b r a sum; less = rest.0; sign = inr rest.1 }

pub up_is : (a b : ℤ) → 0 < unsigned_abs b → IsRoundedUp a b (quotient_up a b)
up_is a b h = rounds_up a b (int_div a b) (int_rem a b) (quot-rem a b) (rem_below a b h) (rem_sign a b) (int_eq (int_rem a b) (pos 0)) refl (have_unlike_signs a b) refl

pub down_is : (a b : ℤ) → 0 < unsigned_abs b → IsRoundedDown a b (quotient_down a b)
down_is a b h = rounds_down a b (int_div a b) (int_rem a b) (quot-rem a b) (rem_below a b h) (rem_sign a b) (int_eq (int_rem a b) (pos 0)) refl (have_unlike_signs a b) refl
