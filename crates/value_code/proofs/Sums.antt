-- The sum of indices times strides, modulo 2^64.
use Rattle.std.proofs.Common.{◌≡◌, ℕ, ◌+◌, ◌*◌, ◌-◌, ◌%◌, ◌^◌, ◌≤◌, List, [], ◌∷◌, Bool, true, false, refl, sym, ap, ◌∙◌, arith}
use Rattle.std.proofs.Math.Nat.{add-mod, mod-mod}
use Rattle.std.proofs.Math.Pow.{mod-mod-pow}
use Rattle.number_model.specs.Numbers.{signed, signed_below}
use Rattle.number_model.specs.Answers.{Answer, Gives, and_then, undefined_if, with_answer}
use Rattle.number_model.specs.Answers.{Answer as answer}
use Rattle.operation_model.specs.Values as model
use Rattle.operation_model.specs.Pures.{indexed, with_index, is_index}
use Rattle.std.specs.Prelude.{not}
use Rattle.value_code.specs.Models.{number_in, index_and_stride}

then_assoc : {A B C : Type 0} (a : Answer A) (f : A → Answer B) (g : B → Answer C) → and_then (and_then a f) g ≡ and_then a (λ x. and_then (f x) g)
then_assoc (Gives x) f g = refl
then_assoc answer.Undefined f g = refl
then_assoc answer.Outside f g = refl

then_same : {A B : Type 0} (a : Answer A) (f g : A → Answer B) → ((x : A) → f x ≡ g x) → and_then a f ≡ and_then a g
then_same (Gives x) f g h = h x
then_same answer.Undefined f g h = refl
then_same answer.Outside f g h = refl

same_plus : (s t c : ℕ) → s % 2 ^ 64 ≡ t % 2 ^ 64 → (s + c) % 2 ^ 64 ≡ (t + c) % 2 ^ 64
same_plus s t c e = add-mod s c (2 ^ 64) ∙ ap (λ k. (k + c % 2 ^ 64) % 2 ^ 64) e ∙ sym (add-mod t c (2 ^ 64))

module _ (bits : ℕ) (m : model.Value) where
  abbrev pub plus : ℕ → ℕ × ℕ → Answer ℕ
  plus sum p = Gives (sum + p.0 * p.1)

  added : (b : Bool) (sum i stride : ℕ) → undefined_if b (Gives (sum + i * stride)) ≡ and_then (undefined_if b (Gives (i, stride))) (plus sum)
  added true sum i stride = refl
  added false sum i stride = refl

  -- what one dimension adds
  pub index_is : (k sum : ℕ) (x : model.Value) → with_index bits m k sum x ≡ and_then (index_and_stride bits m k x) (plus sum)
  index_is k sum x =
      then_same (model.number x) _ _ (λ i.
      sym (then_assoc (model.part_at (model.size_path k) m) model.number _)
      ∙ then_same (number_in (model.size_path k) m) _ _ (λ size.
      sym (then_assoc (model.part_at (model.stride_path k) m) model.number _)
      ∙ then_same (number_in (model.stride_path k) m) _ _ (λ stride. added (not (is_index bits i size)) sum i stride)
      ∙ sym (then_assoc (number_in (model.stride_path k) m) _ (plus sum)))
      ∙ sym (then_assoc (number_in (model.size_path k) m) _ (plus sum)))
      ∙ sym (then_assoc (model.number x) _ (plus sum))

  same_signed : bits ≤ 64 → (s t : ℕ) → s % 2 ^ 64 ≡ t % 2 ^ 64 → signed bits s ≡ signed bits t
  same_signed le s t e = ap (signed_below bits) (low s ∙ ap (λ k. k % 2 ^ bits) e ∙ sym (low t))
    where
      low : (n : ℕ) → n % 2 ^ bits ≡ n % 2 ^ 64 % 2 ^ bits
      low n = let sum : 64 - bits + bits ≡ 64 = omega arith in sym (mod-mod-pow n (64 - bits) bits) ∙ ap (λ j. n % 2 ^ j % 2 ^ bits) sum

  -- sums that are equal modulo 2^64
  pub same_sum : bits ≤ 64 → (xs : List model.Value) (k s t : ℕ) → s % 2 ^ 64 ≡ t % 2 ^ 64
      → with_answer (signed bits) (indexed bits m k s xs) ≡ with_answer (signed bits) (indexed bits m k t xs)
  same_sum le [] k s t e = ap Gives (same_signed le s t e)
  same_sum le (x ∷ xs) k s t e =
      ap (λ a. with_answer (signed bits) (and_then a (λ next. indexed bits m (k + 1) next xs))) (index_is k s x)
      ∙ go (λ p. same_sum le xs (k + 1) (s + p.0 * p.1) (t + p.0 * p.1) (same_plus s t (p.0 * p.1) e)) (index_and_stride bits m k x)
      ∙ sym (ap (λ a. with_answer (signed bits) (and_then a (λ next. indexed bits m (k + 1) next xs))) (index_is k t x))
    where
      go : ((p : ℕ × ℕ) → with_answer (signed bits) (indexed bits m (k + 1) (s + p.0 * p.1) xs) ≡ with_answer (signed bits) (indexed bits m (k + 1) (t + p.0 * p.1) xs))
          → (a : Answer (ℕ × ℕ))
          → with_answer (signed bits) (and_then (and_then a (plus s)) (λ next. indexed bits m (k + 1) next xs))
          ≡ with_answer (signed bits) (and_then (and_then a (plus t)) (λ next. indexed bits m (k + 1) next xs))
      go h (Gives p) = h p
      go h answer.Undefined = refl
      go h answer.Outside = refl

  -- one index more
  pub one_index : bits ≤ 64 → (x : model.Value) (k sum next : ℕ) (p : ℕ × ℕ) (rest : List model.Value) → Gives p ≡ index_and_stride bits m k x → next ≡ (sum + p.0 * p.1) % 2 ^ 64
      → with_answer (signed bits) (indexed bits m (k + 1) next rest) ≡ with_answer (signed bits) (indexed bits m k sum (x ∷ rest))
  one_index le x k sum next p rest e f =
      same_sum le rest (k + 1) next (sum + p.0 * p.1) (ap (λ n. n % 2 ^ 64) f ∙ mod-mod (sum + p.0 * p.1) (2 ^ 64))
      ∙ sym (ap (λ a. with_answer (signed bits) (and_then a (λ after. indexed bits m (k + 1) after rest))) (index_is k sum x ∙ ap (λ a. and_then a (plus sum)) (sym e)))
