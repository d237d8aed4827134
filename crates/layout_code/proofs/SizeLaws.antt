-- Sizes one after another, their product and their strides.
use Rattle.std.proofs.Common.{◌≡◌, ℕ, zero, suc, ◌+◌, ◌*◌, ◌-◌, ◌%◌, ◌^◌, ◌<◌, ◌≤◌, min, nat_lt, not, List, [], ◌∷◌, ◌++◌, map, take, drop, length, get_or, Bool, true, false, Option, Some, None, refl, sym, ap, ap₂, subst, ◌∙◌, append_assoc, arith}
use Rattle.std.specs.Prelude.{reverse}
use Rattle.std.specs.List.{slice_get}
use Rattle.std.proofs.lemmas.List.{reverse-append}
use Rattle.std.proofs.lemmas.Nat.{mul-mod_first}
use Rattle.std.proofs.Math.Nat.{mul_comm}
use Rattle.value_code.specs.declared.value.Value as value
use Rattle.value_code.proofs.Shapes.{value_of-Integer}
use Rattle.std.proofs.lemmas.Option.{same_Some, none-some}
use Rattle.number_model.specs.Answers.{Answer, Gives, and_then, with_answer, undefined_if}
use Rattle.number_model.specs.Answers.{Answer as answer}
use Rattle.number_model.specs.Numbers.{unsigned}
use Rattle.operation_model.specs.Values as values
use Rattle.operation_model.specs.Straight as model
use Rattle.value_code.specs.declared.value.Value.{Value}
use Rattle.value_code.specs.declared.look.Looked.{Looked}
use Rattle.value_code.specs.declared.look.Looked.TheVariants as looked
use Rattle.value_code.specs.Models.{value_of, values_of}
use Rattle.layout_code.specs.declared.sizes.Size.{Size}
use Rattle.layout_code.specs.declared.sizes.Taken.{Taken}
use Rattle.layout_code.specs.Sizes.{checked, size_of, sizes_of, counted, taken_answer, IsTaken, IsWithin, Takes}

-- one size

sized_is : (b : Bool) (v : values.Value) (n : ℕ) (rest : Answer (List model.Size))
    → undefined_if b (with_answer (λ ss. record { value = v; number = n } ∷ ss) rest) ≡ and_then (undefined_if b (Gives (record { value = v; number = n }))) (λ s. with_answer (λ ss. s ∷ ss) rest)
sized_is true v n rest = refl
sized_is false v n rest = refl

pub sized_checked : (bits : ℕ) (v : values.Value) (n : ℕ) (rest : Answer (List model.Size)) → model.sized bits v n rest ≡ and_then (checked bits v n) (λ s. with_answer (λ ss. s ∷ ss) rest)
sized_checked bits v n rest = sized_is (not (nat_lt n (2 ^ (bits - 1)))) v n rest

then_assoc : {A B C : Type 0} (a : Answer A) (f : A → Answer B) (g : B → Answer C) → and_then (and_then a f) g ≡ and_then a (λ x. and_then (f x) g)
then_assoc (Gives x) f g = refl
then_assoc answer.Undefined f g = refl
then_assoc answer.Outside f g = refl

then_same : {A B : Type 0} (a : Answer A) (f g : A → Answer B) → ((x : A) → f x ≡ g x) → and_then a f ≡ and_then a g
then_same (Gives x) f g h = h x
then_same answer.Undefined f g h = refl
then_same answer.Outside f g h = refl

abbrev Counted : Type 0
Counted = Answer (model.Size × ℕ)

abbrev first : Counted → model.Size
first (Gives p) = p.0
first _ = record { value = values.Unset; number = 0 }

abbrev second : Counted → ℕ
second (Gives p) = p.1
second _ = 0

abbrev is_given : Counted → Type 0
is_given (Gives p) = Unit {0}
is_given _ = ⊥

abbrev is_undefined : Counted → Type 0
is_undefined answer.Undefined = Unit {0}
is_undefined _ = ⊥

given_not_undefined : {p : model.Size × ℕ} → Gives p ≡ answer.Undefined → ⊥
given_not_undefined e = subst is_given e tt

given_not_outside : {p : model.Size × ℕ} → Gives p ≡ answer.Outside → ⊥
given_not_outside e = subst is_given e tt

undefined_not_outside : ◌≡◌ {A = Counted} answer.Undefined answer.Outside → ⊥
undefined_not_outside e = subst is_undefined e tt

-- what is said of a size that is taken, from what the look gives
taken_from : (l : Looked Taken) (bits : ℕ) (fixed : Option ℕ) (xs : List Value) (a : Answer model.Size) (count : ℕ) (more : List (Option ℕ))
    → taken_answer l ≡ counted count a
    → model.sizes_from bits (fixed ∷ more) (values_of xs) ≡ and_then a (λ s. with_answer (λ ss. s ∷ ss) (model.sizes_from bits more (values_of (drop count xs))))
    → IsTaken l bits fixed xs more
taken_from (looked.Gives t) bits fixed xs (Gives s) count more e is =
    is ∙ ap₂ (λ z k. with_answer (λ ss. z ∷ ss) (model.sizes_from bits more (values_of (drop k xs)))) (sym (ap first e)) (sym (ap second e))
taken_from (looked.Gives t) bits fixed xs answer.Undefined count more e is = absurd (given_not_undefined e)
taken_from (looked.Gives t) bits fixed xs answer.Outside count more e is = absurd (given_not_outside e)
taken_from looked.Undefined bits fixed xs (Gives s) count more e is = absurd (given_not_undefined (sym e))
taken_from looked.Undefined bits fixed xs answer.Undefined count more e is = is
taken_from looked.Undefined bits fixed xs answer.Outside count more e is = absurd (undefined_not_outside e)
taken_from looked.Outside bits fixed xs (Gives s) count more e is = absurd (given_not_outside (sym e))
taken_from looked.Outside bits fixed xs answer.Undefined count more e is = absurd (undefined_not_outside (sym e))
taken_from looked.Outside bits fixed xs answer.Outside count more e is = is

within_from : (l : Looked Taken) (xs : List Value) (a : Answer model.Size) (count : ℕ) → taken_answer l ≡ counted count a → count ≤ length xs → IsWithin l xs
within_from (looked.Gives t) xs (Gives s) count e le = subst (λ k. k ≤ length xs) (sym (ap second e)) le
within_from (looked.Gives t) xs answer.Undefined count e le = absurd (given_not_undefined e)
within_from (looked.Gives t) xs answer.Outside count e le = absurd (given_not_outside e)
within_from looked.Undefined xs a count e le = tt
within_from looked.Outside xs a count e le = tt

pub fixed_taken : (l : Looked Taken) (bits n : ℕ) (xs : List Value) (a : Answer model.Size) → taken_answer l ≡ counted 0 a → a ≡ checked bits (values.Integer n) n → Takes l bits (Some n) xs
fixed_taken l bits n xs a e is = record {
  is = λ more. taken_from l bits (Some n) xs a 0 more e
      (sized_checked bits (values.Integer n) n (model.sizes_from bits more (values_of xs)) ∙ ap (λ o. and_then o (λ s. with_answer (λ ss. s ∷ ss) (model.sizes_from bits more (values_of xs)))) (sym is));
  within = within_from l xs a 0 e (omega arith);
}

pub given_taken : (l : Looked Taken) (bits : ℕ) (xs : List Value) (x : Value) (a : Answer model.Size) → slice_get xs 0 ≡ Some x → taken_answer l ≡ counted 1 a
    → a ≡ and_then (values.number (value_of x)) (λ n. checked bits (value_of x) (unsigned bits n)) → Takes l bits None xs
given_taken l bits [] x a at e is = absurd (none-some x at)
given_taken l bits (y ∷ ys) x a at e is = record {
  is = λ more. taken_from l bits None (y ∷ ys) a 1 more e
      (ap (λ z. and_then (values.number (value_of z)) (λ n. model.sized bits (value_of z) (unsigned bits n) (model.sizes_from bits more (values_of ys)))) (same_Some y x at)
      ∙ then_same (values.number (value_of x)) _ _ (λ n. sized_checked bits (value_of x) (unsigned bits n) (model.sizes_from bits more (values_of ys)))
      ∙ sym (then_assoc (values.number (value_of x)) (λ n. checked bits (value_of x) (unsigned bits n)) (λ s. with_answer (λ ss. s ∷ ss) (model.sizes_from bits more (values_of ys))))
      ∙ ap (λ o. and_then o (λ s. with_answer (λ ss. s ∷ ss) (model.sizes_from bits more (values_of ys)))) (sym is));
  within = within_from l (y ∷ ys) a 1 e (omega arith);
}

pub no_operand : (bits : ℕ) (xs : List Value) → slice_get xs 0 ≡ None → Takes looked.Outside bits None xs
no_operand bits [] at = record { is = λ more. refl; within = tt }
no_operand bits (y ∷ ys) at = absurd (none-some y (sym at))

-- all sizes

drop_on : {A : Type 0} (xs : List A) (i : ℕ) (x : A) → slice_get xs i ≡ Some x → drop i xs ≡ x ∷ drop (suc i) xs
drop_on [] i x e = absurd (none-some x e)
drop_on (y ∷ ys) zero x e = ap (λ z. z ∷ ys) (same_Some y x e)
drop_on (y ∷ ys) (suc i) x e = drop_on ys i x e

pub drop_at : {A : Type 0} (xs : List A) (i : ℕ) (x : A) → slice_get xs i ≡ Some x → drop i xs ≡ x ∷ drop (i + 1) xs
drop_at xs i x e = let next : suc i ≡ i + 1 = omega arith in drop_on xs i x e ∙ ap (λ j. x ∷ drop j xs) next

pub drop_whole : {A : Type 0} (xs : List A) (n : ℕ) → length xs ≤ n → drop n xs ≡ []
drop_whole [] zero le = refl
drop_whole [] (suc n) le = refl
drop_whole (y ∷ ys) zero le = absurd (omega (arith, le))
drop_whole (y ∷ ys) (suc n) le = drop_whole ys n (omega (arith, le))

pub get_is : {A : Type 0} (xs : List A) (i : ℕ) (d : A) → i < length xs → slice_get xs i ≡ Some (get_or xs i d)
get_is [] i d lt = absurd (omega (arith, lt))
get_is (x ∷ xs) zero d lt = refl
get_is (x ∷ xs) (suc i) d lt = get_is xs i d (omega (arith, lt))

abbrev before : List Size → Answer (List model.Size) → Answer (List model.Size)
before done rest = with_answer (λ ss. sizes_of done ++ ss) rest

sizes_append : (a b : List Size) → sizes_of (a ++ b) ≡ sizes_of a ++ sizes_of b
sizes_append [] b = refl
sizes_append (x ∷ a) b = ap (λ l. size_of x ∷ l) (sizes_append a b)

nil_behind : (xs : List model.Size) → xs ++ [] ≡ xs
nil_behind [] = refl
nil_behind (x ∷ xs) = ap (λ l. x ∷ l) (nil_behind xs)

one_more : (old new : List Size) (s : Size) (rest : Answer (List model.Size)) → new ≡ old ++ s ∷ [] → before new rest ≡ before old (with_answer (λ ss. size_of s ∷ ss) rest)
one_more old new s (Gives ss) e = ap (λ l. Gives (l ++ ss)) (ap sizes_of e ∙ sizes_append old (s ∷ [])) ∙ ap Gives (append_assoc (sizes_of old) (size_of s ∷ []) ss)
one_more old new s answer.Undefined e = refl
one_more old new s answer.Outside e = refl

module _ (bits : ℕ) (fixed : List (Option ℕ)) (xs : List Value) where
  abbrev pub Sofar : ℕ → List Value → List Size → Type 0
  Sofar i rest all = before all (model.sizes_from bits (drop i fixed) (values_of rest)) ≡ model.sizes_from bits fixed (values_of xs)

  pub begins : Sofar 0 xs []
  begins = none_before (model.sizes_from bits fixed (values_of xs))
    where
      none_before : (a : Answer (List model.Size)) → with_answer (λ ss. [] ++ ss) a ≡ a
      none_before (Gives ss) = refl
      none_before answer.Undefined = refl
      none_before answer.Outside = refl

  pub size_taken : (l : Looked Taken) (i : ℕ) (t : Taken) (size : Size) (rest next : List Value) (all new : List Size) (f : Option ℕ) → slice_get fixed i ≡ Some f → l ≡ looked.Gives t → Takes l bits f rest
      → size ≡ t.size → next ≡ drop t.count rest → new ≡ all ++ size ∷ [] → Sofar i rest all → Sofar (i + 1) next new
  size_taken l i t size rest next all new f at is takes same e more so =
      ap (λ k. before new (model.sizes_from bits (drop (i + 1) fixed) (values_of k))) e
      ∙ one_more all new size (model.sizes_from bits (drop (i + 1) fixed) (values_of (drop t.count rest))) more
      ∙ ap (λ s. before all (with_answer (λ ss. size_of s ∷ ss) (model.sizes_from bits (drop (i + 1) fixed) (values_of (drop t.count rest))))) same
      ∙ ap (before all) (sym ((subst (λ o. Takes o bits f rest) is takes).is (drop (i + 1) fixed)))
      ∙ ap (λ fs. before all (model.sizes_from bits fs (values_of rest))) (sym (drop_at fixed i f at)) ∙ so

  pub size_undefined : (l : Looked Taken) (i : ℕ) (rest : List Value) (all : List Size) (f : Option ℕ) → slice_get fixed i ≡ Some f → l ≡ looked.Undefined → Takes l bits f rest → Sofar i rest all
      → answer.Undefined ≡ model.sizes_from bits fixed (values_of xs)
  size_undefined l i rest all f at is takes so =
      sym (ap (before all) (ap (λ fs. model.sizes_from bits fs (values_of rest)) (drop_at fixed i f at) ∙ (subst (λ o. Takes o bits f rest) is takes).is (drop (i + 1) fixed))) ∙ so

  pub size_outside : (l : Looked Taken) (i : ℕ) (rest : List Value) (all : List Size) (f : Option ℕ) → slice_get fixed i ≡ Some f → l ≡ looked.Outside → Takes l bits f rest → Sofar i rest all
      → answer.Outside ≡ model.sizes_from bits fixed (values_of xs)
  size_outside l i rest all f at is takes so =
      sym (ap (before all) (ap (λ fs. model.sizes_from bits fs (values_of rest)) (drop_at fixed i f at) ∙ (subst (λ o. Takes o bits f rest) is takes).is (drop (i + 1) fixed))) ∙ so

  pub all_taken : (n : ℕ) (rest : List Value) (all : List Size) → length fixed ≤ n → rest ≡ [] → Sofar n rest all → Gives (sizes_of all) ≡ model.sizes_from bits fixed (values_of xs)
  all_taken n rest all e none so =
      ap Gives (sym (nil_behind (sizes_of all))) ∙ sym (ap (before all) (ap₂ (λ fs l. model.sizes_from bits fs (values_of l)) (drop_whole fixed n e) none)) ∙ so

  pub some_left_over : (n : ℕ) (rest : List Value) (all : List Size) → length fixed ≤ n → (rest ≡ [] → ⊥) → Sofar n rest all → answer.Outside ≡ model.sizes_from bits fixed (values_of xs)
  some_left_over n [] all e some so = absurd (some refl)
  some_left_over n (v ∷ rest) all e some so = sym (ap (before all) (ap (λ fs. model.sizes_from bits fs (values_of (v ∷ rest))) (drop_whole fixed n e))) ∙ so

-- strides

values_append : (vs ws : List Value) → values_of (vs ++ ws) ≡ values_of vs ++ values_of ws
values_append [] ws = refl
values_append (x ∷ vs) ws = ap (λ l. value_of x ∷ l) (values_append vs ws)

drop_before : (xs : List Size) (j i : ℕ) (x : Size) → i ≡ j + 1 → slice_get xs j ≡ Some x → drop j xs ≡ x ∷ drop i xs
drop_before xs j i x e at = drop_at xs j x at ∙ ap (λ k. x ∷ drop k xs) (sym e)

module _ (bits : ℕ) (sizes : List Size) where
  pub stride_put : (j i : ℕ) (old new : List Value) (s : Size) (stride : ℕ) → i ≡ j + 1 → slice_get sizes j ≡ Some s → new ≡ old ++ value.Integer stride ∷ []
      → values_of (reverse old) ≡ model.strides bits (sizes_of (drop i sizes)) → stride ≡ unsigned bits (model.elements (sizes_of (drop i sizes)))
      → values_of (reverse new) ≡ model.strides bits (sizes_of (drop j sizes))
  stride_put j i old new s stride e at is all next =
      ap (λ l. values_of (reverse l)) is ∙ ap values_of (reverse-append old (value.Integer stride ∷ []))
      ∙ ap₂ (λ x l. x ∷ l) (value_of-Integer stride ∙ ap values.Integer next) all
      ∙ ap (λ l. model.strides bits (sizes_of l)) (sym (drop_before sizes j i s e at))

  pub next_stride : (j i : ℕ) (s : Size) (stride new : ℕ) → i ≡ j + 1 → slice_get sizes j ≡ Some s → stride ≡ unsigned bits (model.elements (sizes_of (drop i sizes)))
      → new ≡ s.number * stride % 2 ^ bits → new ≡ unsigned bits (model.elements (sizes_of (drop j sizes)))
  next_stride j i s stride new e at next is =
      is ∙ ap (λ k. s.number * k % 2 ^ bits) next ∙ ap (λ k. k % 2 ^ bits) (mul_comm s.number (model.elements (sizes_of (drop i sizes)) % 2 ^ bits))
      ∙ mul-mod_first (model.elements (sizes_of (drop i sizes))) s.number (2 ^ bits) ∙ ap (λ k. k % 2 ^ bits) (mul_comm (model.elements (sizes_of (drop i sizes))) s.number)
      ∙ ap (λ l. unsigned bits (model.elements (sizes_of l))) (sym (drop_before sizes j i s e at))
