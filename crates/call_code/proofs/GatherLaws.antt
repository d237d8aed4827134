-- Arguments from the values that are handed over.
use Rattle.std.proofs.Common.{◌≡◌, ℕ, zero, suc, ◌+◌, ◌≤◌, List, [], ◌∷◌, ◌++◌, take, drop, length, Option, Some, None, refl, sym, ap, ap₂, subst, ◌∙◌, append_assoc, arith}
use Rattle.std.specs.List.{slice_get}
use Rattle.number_model.specs.Answers.{Gives}
use Rattle.number_model.specs.Answers.{Answer as answer}
use Rattle.operation_model.specs.Values as model
use Rattle.operation_model.specs.Calling.{Shapes, from_fields, gathered}
use Rattle.value_code.specs.declared.value.Value.{Value}
use Rattle.value_code.specs.declared.value.Value as value
use Rattle.value_code.specs.Models.{value_of, values_of}
use Rattle.value_code.proofs.Shapes.{value_of-Aggregate}
use Rattle.call_code.specs.Lists.{before, Takes}
use Rattle.call_code.proofs.CallLaws.{values_append, nil_behind, drop_at, drop_whole}

values_take : (n : ℕ) (vs : List Value) → values_of (take n vs) ≡ take n (values_of vs)
values_take zero vs = refl
values_take (suc n) [] = refl
values_take (suc n) (v ∷ vs) = ap (λ l. value_of v ∷ l) (values_take n vs)

values_drop : (n : ℕ) (vs : List Value) → values_of (drop n vs) ≡ drop n (values_of vs)
values_drop zero vs = refl
values_drop (suc n) [] = refl
values_drop (suc n) (v ∷ vs) = values_drop n vs

values_length : (vs : List Value) → length (values_of vs) ≡ length vs
values_length [] = refl
values_length (v ∷ vs) = ap suc (values_length vs)

drop_twice : (m n : ℕ) (vs : List model.Value) → drop m (drop n vs) ≡ drop (n + m) vs
drop_twice m zero vs = let none : m ≡ 0 + m = omega arith in ap (λ k. drop k vs) none
drop_twice zero (suc n) [] = let some : suc n + 0 ≡ suc n = omega arith in ap (λ k. drop k []) (sym some)
drop_twice (suc m) (suc n) [] = let some : suc n + suc m ≡ suc (n + suc m) = omega arith in ap (λ k. drop k []) (sym some)
drop_twice m (suc n) (v ∷ vs) = let some : suc n + m ≡ suc (n + m) = omega arith in drop_twice m n vs ∙ ap (λ k. drop k (v ∷ vs)) (sym some)

-- the descriptor of fields with dimensions
descriptor_made : (r : ℕ) (fields parts : List Value) (sizes strides : Value) → parts ≡ (take 3 fields ++ sizes ∷ []) ++ strides ∷ []
    → value_of sizes ≡ model.together (values_of (take (suc r) (drop 3 fields))) → value_of strides ≡ model.together (values_of (drop (suc r) (drop 3 fields)))
    → value_of (value.Aggregate parts) ≡ from_fields (suc r) (values_of fields)
descriptor_made r fields parts sizes strides is s t =
    let behind : 3 + suc r ≡ 4 + r = omega arith in
    value_of-Aggregate parts
    ∙ ap model.together
    (ap values_of is
    ∙ values_append (take 3 fields ++ sizes ∷ []) (strides ∷ [])
    ∙ ap (λ l. l ++ value_of strides ∷ []) (values_append (take 3 fields) (sizes ∷ []))
    ∙ append_assoc (values_of (take 3 fields)) (value_of sizes ∷ []) (value_of strides ∷ [])
    ∙ ap₂ (λ front back. front ++ back) (values_take 3 fields)
    (ap₂ (λ x y. x ∷ y ∷ [])
    (s ∙ ap model.together (values_take (suc r) (drop 3 fields) ∙ ap (take (suc r)) (values_drop 3 fields)))
    (t ∙ ap model.together (values_drop (suc r) (drop 3 fields) ∙ ap (drop (suc r)) (values_drop 3 fields) ∙ drop_twice (suc r) 3 (values_of fields) ∙ ap (λ k. drop k (values_of fields)) behind))))

pub with_dimensions : (rank : ℕ) (fields head tail front back parts : List Value) (sizes strides : Value) → 1 ≤ rank → head ≡ take 3 fields → tail ≡ drop 3 fields → front ≡ take rank tail → back ≡ drop rank tail
    → parts ≡ (head ++ sizes ∷ []) ++ strides ∷ [] → value_of sizes ≡ model.together (values_of front) → value_of strides ≡ model.together (values_of back)
    → value_of (value.Aggregate parts) ≡ from_fields rank (values_of fields)
with_dimensions zero fields head tail front back parts sizes strides some h t f b is s u = absurd (omega (arith, some))
with_dimensions (suc r) fields head tail front back parts sizes strides some h t f b is s u =
    descriptor_made r fields parts sizes strides (is ∙ ap (λ l. (l ++ sizes ∷ []) ++ strides ∷ []) h)
    (s ∙ ap (λ l. model.together (values_of l)) (f ∙ ap (take (suc r)) t)) (u ∙ ap (λ l. model.together (values_of l)) (b ∙ ap (drop (suc r)) t))

-- all arguments

module _ (shapes : Shapes) (xs : List Value) where
  abbrev pub Sofar : ℕ → List Value → List Value → Type 0
  Sofar i rest all = before all (gathered (drop i shapes) (values_of rest)) ≡ gathered shapes (values_of xs)

  pub taken : (i n : ℕ) (t : Option ℕ) (rest next all new : List Value) (shape : Option ℕ) → slice_get shapes i ≡ Some shape → t ≡ Some n → Takes t all new shape rest → next ≡ drop n rest
      → Sofar i rest all → Sofar (i + 1) next new
  taken i n t rest next all new shape s is takes e so =
      let found = subst (λ o. Takes o all new shape rest) is takes in
      ap (λ l. before new (gathered (drop (i + 1) shapes) (values_of l))) e ∙ found.is (drop (i + 1) shapes) ∙ ap (λ ss. before all (gathered ss (values_of rest))) (sym (drop_at shapes i shape s)) ∙ so

  pub missing_values : (i : ℕ) (t : Option ℕ) (rest all new : List Value) (shape : Option ℕ) → slice_get shapes i ≡ Some shape → t ≡ None → Takes t all new shape rest → Sofar i rest all
      → answer.Outside ≡ gathered shapes (values_of xs)
  missing_values i t rest all new shape s is takes so =
      let none = subst (λ o. Takes o all new shape rest) is takes in
      sym (ap (before all) (ap (λ ss. gathered ss (values_of rest)) (drop_at shapes i shape s) ∙ none.is (drop (i + 1) shapes))) ∙ so

  pub all_taken : (n : ℕ) (rest all : List Value) → n ≡ length shapes → rest ≡ [] → Sofar n rest all → Gives (values_of all) ≡ gathered shapes (values_of xs)
  all_taken n rest all e none so =
      ap Gives (sym (nil_behind (values_of all))) ∙ sym (ap (before all) (ap₂ (λ ss l. gathered ss (values_of l)) (drop_whole shapes n e) none)) ∙ so

  pub some_left_over : (n : ℕ) (rest all : List Value) → n ≡ length shapes → (rest ≡ [] → ⊥) → Sofar n rest all → answer.Outside ≡ gathered shapes (values_of xs)
  some_left_over n [] all e some so = absurd (some refl)
  some_left_over n (v ∷ rest) all e some so = sym (ap (before all) (ap (λ ss. gathered ss (values_of (v ∷ rest))) (drop_whole shapes n e))) ∙ so
