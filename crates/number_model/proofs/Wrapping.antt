-- Sums, differences and products modulo 2 to a width.
use Rattle.std.proofs.Common.{◌≡◌, ℕ, suc, ◌+◌, ◌*◌, ◌-◌, ◌/◌, ◌%◌, ◌^◌, ◌<◌, ◌≤◌, sym, ap, ap₂, ◌∙◌, arith}
use Rattle.std.specs.Prelude.{ℤ, pos, negsuc, neg_ℤ, ◌+ℤ◌, ◌-ℤ◌, ◌*ℤ◌}
use Rattle.std.proofs.lemmas.Int.{ints}
use Rattle.std.proofs.Math.Nat.{mod-lt, mod-mod, div-add-mod', add-mul-mod_self_right, add-mod, add-mul, le_of_lt}
use Rattle.std.proofs.Math.IntN.{*ℤ_comm}
use Rattle.std.proofs.lemmas.Nat.{mod-mul-add, mul-mod, div_below}
use Rattle.std.proofs.Math.Pow.{pow_pos}
use Rattle.number_model.specs.Numbers.{unsigned, wrapped}
use Rattle.number_model.specs.Answers.{Gives}
use Rattle.number_model.specs.Promises.{SumsWrap, DifferencesWrap, ProductsWrap}

rest_of : (n a q r m j : ℕ) → n + suc a ≡ (j + suc q) * m → q * m + r ≡ a → r < m → n ≡ j * m + (m - suc r)
rest_of n a q r m j e d lt = omega arith

-- an integer that some multiple more makes a natural number
above_is : (m a p n : ℕ) → 0 < m → n + suc a ≡ p * m → m - suc (a % m) ≡ n % m
above_is m a p n some e =
    let r : a % m < m = mod-lt a some in
    let lt : a / m < p = div_below a m p some (omega arith) in
    let j : ℕ = p - suc (a / m) in
    let same : p ≡ j + suc (a / m) = omega arith in
    let q : n ≡ j * m + (m - suc (a % m)) = rest_of n a (a / m) (a % m) m j (e ∙ ap (λ k. k * m) same) (div-add-mod' a m) r in
    sym (mod-mul-add j m (m - suc (a % m)) (omega arith)) ∙ ap (λ x. x % m) (sym q)

wrapped_is : (w : ℕ) (x : ℤ) (p n : ℕ) → x +ℤ pos (p * 2 ^ w) ≡ pos n → wrapped w x ≡ n % 2 ^ w
wrapped_is w (pos a) p n e = sym (add-mul-mod_self_right a p (2 ^ w)) ∙ ap (λ k. k % 2 ^ w) (omega (arith, ints))
wrapped_is w (negsuc a) p n e = above_is (2 ^ w) a p n (pow_pos w) (omega (arith, ints))

-- a natural number that is an integer and a multiple
record Lift (w : ℕ) (x : ℤ) : Type 0 where
  times : ℕ
  number : ℕ
  is : x +ℤ pos (times * 2 ^ w) ≡ pos number

lift_of : (q r a m : ℕ) → q * m + r ≡ a → r < m → negsuc a +ℤ pos (suc q * m) ≡ pos (m - suc r)
lift_of q r a m d lt = let e : suc q * m ≡ q * m + m = omega arith in omega (arith, ints)

lift : (w : ℕ) (x : ℤ) → Lift w x
lift w (pos a) = record { times = 0; number = a; is = omega (arith, ints) }
lift w (negsuc a) = record {
  times = suc (a / 2 ^ w);
  number = 2 ^ w - suc (a % 2 ^ w);
  is = lift_of (a / 2 ^ w) (a % 2 ^ w) a (2 ^ w) (div-add-mod' a (2 ^ w)) (mod-lt a (pow_pos w));
}

lift_is : (w : ℕ) (x : ℤ) → wrapped w x ≡ (lift w x).number % 2 ^ w
lift_is w x = wrapped_is w x (lift w x).times (lift w x).number (lift w x).is

sum_is : (w : ℕ) (x y : ℤ) (p q k l : ℕ) → x +ℤ pos (p * 2 ^ w) ≡ pos k → y +ℤ pos (q * 2 ^ w) ≡ pos l → (x +ℤ y) +ℤ pos ((p + q) * 2 ^ w) ≡ pos (k + l)
sum_is w x y p q k l e f = let d : (p + q) * 2 ^ w ≡ p * 2 ^ w + q * 2 ^ w = omega arith in omega (arith, ints)

-- both sides of a sum
sum_of_lifts : (w : ℕ) (x y : ℤ) → wrapped w (x +ℤ y) ≡ ((lift w x).number + (lift w y).number) % 2 ^ w
sum_of_lifts w x y = wrapped_is w (x +ℤ y) ((lift w x).times + (lift w y).times) _ (sum_is w x y (lift w x).times (lift w y).times _ _ (lift w x).is (lift w y).is)

twice : (w : ℕ) (x : ℤ) → wrapped w x % 2 ^ w ≡ (lift w x).number % 2 ^ w
twice w x = ap (λ k. k % 2 ^ w) (lift_is w x) ∙ mod-mod (lift w x).number (2 ^ w)

sums : (w : ℕ) (x y : ℤ) → wrapped w (pos (unsigned w (wrapped w x)) +ℤ pos (unsigned w (wrapped w y))) ≡ wrapped w (x +ℤ y)
sums w x y =
    ap₂ (λ k l. (k + l) % 2 ^ w) (twice w x) (twice w y)
    ∙ sym (add-mod (lift w x).number (lift w y).number (2 ^ w))
    ∙ sym (sum_of_lifts w x y)

pub sums_wrap : SumsWrap
sums_wrap w x y = ap Gives (sums w x y)

-- integers that are equal up to multiples
same_up_to : (w : ℕ) (x y : ℤ) (p q : ℕ) → x +ℤ pos (p * 2 ^ w) ≡ y +ℤ pos (q * 2 ^ w) → wrapped w x ≡ wrapped w y
same_up_to w x y p q e =
    wrapped_is w x (p + (lift w y).times) ((lift w y).number + q * 2 ^ w) (shifted x y (p * 2 ^ w) (q * 2 ^ w) ((lift w y).times * 2 ^ w) ((p + (lift w y).times) * 2 ^ w) (lift w y).number e (lift w y).is (omega arith))
    ∙ add-mul-mod_self_right (lift w y).number q (2 ^ w) ∙ sym (lift_is w y)
  where
    shifted : (x y : ℤ) (p q t s n : ℕ) → x +ℤ pos p ≡ y +ℤ pos q → y +ℤ pos t ≡ pos n → s ≡ p + t → x +ℤ pos s ≡ pos (n + q)
    shifted x y p q t s n e f g = omega (arith, ints)

-- the negative
negative_of : (y : ℤ) (q n k r m t : ℕ) → y +ℤ pos q ≡ pos n → k + r ≡ n → t ≡ k + m → r ≤ m → neg_ℤ y +ℤ pos t ≡ neg_ℤ (pos r) +ℤ pos (q + m)
negative_of y q n k r m t e d s le = omega (arith, ints)

negatives_at : (w : ℕ) (y : ℤ) (q n : ℕ) → y +ℤ pos (q * 2 ^ w) ≡ pos n → wrapped w (neg_ℤ (pos (n % 2 ^ w))) ≡ wrapped w (neg_ℤ y)
negatives_at w y q n e =
    sym (same_up_to w (neg_ℤ y) (neg_ℤ (pos (n % 2 ^ w))) (suc (n / 2 ^ w)) (q + 1)
    (negative_of y (q * 2 ^ w) n (n / 2 ^ w * 2 ^ w) (n % 2 ^ w) (2 ^ w) (suc (n / 2 ^ w) * 2 ^ w) e (div-add-mod' n (2 ^ w)) (omega arith) (le_of_lt (mod-lt n (pow_pos w)))
    ∙ ap (λ t. neg_ℤ (pos (n % 2 ^ w)) +ℤ pos t) (omega arith)))

negatives : (w : ℕ) (y : ℤ) → wrapped w (neg_ℤ (pos (unsigned w (wrapped w y)))) ≡ wrapped w (neg_ℤ y)
negatives w y = ap (λ r. wrapped w (neg_ℤ (pos r))) (twice w y) ∙ negatives_at w y (lift w y).times (lift w y).number (lift w y).is

differences : (w : ℕ) (x y : ℤ) → wrapped w (pos (unsigned w (wrapped w x)) -ℤ pos (unsigned w (wrapped w y))) ≡ wrapped w (x -ℤ y)
differences w x y =
    sym (sums w (pos (unsigned w (wrapped w x))) (neg_ℤ (pos (unsigned w (wrapped w y)))))
    ∙ ap₂ (λ k l. wrapped w (pos (k % 2 ^ w) +ℤ pos (l % 2 ^ w))) (mod-mod (wrapped w x) (2 ^ w) ∙ self) (negatives w y)
    ∙ sums w x (neg_ℤ y)
  where
    self : wrapped w x % 2 ^ w ≡ wrapped w x
    self = twice w x ∙ sym (lift_is w x)

pub differences_wrap : DifferencesWrap
differences_wrap w x y = ap Gives (differences w x y)

-- a product with an integer, and with what lifts it
times_pos : (x : ℤ) (p k b s : ℕ) → x +ℤ pos p ≡ pos k → s ≡ p * b → x *ℤ pos b +ℤ pos s ≡ pos k *ℤ pos b
times_pos (pos a) p k b s e f = let d : a + p ≡ k = omega (arith, ints) in ap pos (ap (λ t. a * b + t) f ∙ sym (add-mul a p b) ∙ ap (λ t. t * b) d)
times_pos (negsuc a) p k b s e f =
    let d : k + suc a ≡ p = omega (arith, ints) in
    let g : k * b + suc a * b ≡ s = sym (add-mul k (suc a) b) ∙ ap (λ t. t * b) d ∙ sym f in
    from_product (suc a * b) (k * b) s g
  where
    from_product : (u v s : ℕ) → v + u ≡ s → neg_ℤ (pos u) +ℤ pos s ≡ pos v
    from_product u v s g = omega (arith, ints)

times_neg : (x : ℤ) (p k b s : ℕ) → x +ℤ pos p ≡ pos k → s ≡ p * suc b → pos k *ℤ negsuc b +ℤ pos s ≡ x *ℤ negsuc b
times_neg (pos a) p k b s e f =
    let d : a + p ≡ k = omega (arith, ints) in
    let g : a * suc b + s ≡ k * suc b = ap (λ t. a * suc b + t) f ∙ sym (add-mul a p (suc b)) ∙ ap (λ t. t * suc b) d in
    from_product (a * suc b) (k * suc b) s g
  where
    from_product : (u v s : ℕ) → u + s ≡ v → neg_ℤ (pos v) +ℤ pos s ≡ neg_ℤ (pos u)
    from_product u v s g = omega (arith, ints)
times_neg (negsuc a) p k b s e f =
    let d : k + suc a ≡ p = omega (arith, ints) in
    let g : k * suc b + suc a * suc b ≡ s = sym (add-mul k (suc a) (suc b)) ∙ ap (λ t. t * suc b) d ∙ sym f in
    from_product (suc a * suc b) (k * suc b) s g
  where
    from_product : (u v s : ℕ) → v + u ≡ s → neg_ℤ (pos v) +ℤ pos s ≡ pos u
    from_product u v s g = omega (arith, ints)

product_lifts : (w : ℕ) (x y : ℤ) → wrapped w (x *ℤ y) ≡ wrapped w (pos (lift w x).number *ℤ y)
product_lifts w x (pos b) =
    same_up_to w (x *ℤ pos b) (pos (lift w x).number *ℤ pos b) ((lift w x).times * b) 0
    (times_pos x ((lift w x).times * 2 ^ w) (lift w x).number b _ (lift w x).is (omega arith) ∙ nothing (pos (lift w x).number *ℤ pos b) (0 * 2 ^ w) (omega arith))
  where
    nothing : (z : ℤ) (k : ℕ) → k ≡ 0 → z ≡ z +ℤ pos k
    nothing z k e = omega (arith, ints)
product_lifts w x (negsuc b) =
    sym (same_up_to w (pos (lift w x).number *ℤ negsuc b) (x *ℤ negsuc b) ((lift w x).times * suc b) 0
    (times_neg x ((lift w x).times * 2 ^ w) (lift w x).number b _ (lift w x).is (omega arith) ∙ nothing (x *ℤ negsuc b) (0 * 2 ^ w) (omega arith)))
  where
    nothing : (z : ℤ) (k : ℕ) → k ≡ 0 → z ≡ z +ℤ pos k
    nothing z k e = omega (arith, ints)

products : (w : ℕ) (x y : ℤ) → wrapped w (pos (unsigned w (wrapped w x)) *ℤ pos (unsigned w (wrapped w y))) ≡ wrapped w (x *ℤ y)
products w x y =
    ap₂ (λ k l. (k * l) % 2 ^ w) (twice w x) (twice w y)
    ∙ sym (mul-mod (lift w x).number (lift w y).number (2 ^ w))
    ∙ ap (wrapped w) (*ℤ_comm (pos (lift w x).number) (pos (lift w y).number))
    ∙ sym (product_lifts w y (pos (lift w x).number))
    ∙ ap (wrapped w) (*ℤ_comm y (pos (lift w x).number))
    ∙ sym (product_lifts w x y)

pub products_wrap : ProductsWrap
products_wrap w x y = ap Gives (products w x y)
