-- Operands and results in order.
use Rattle.std.proofs.Common.{◌≡◌, ℕ, zero, suc, ◌+◌, true, List, [], ◌∷◌, ◌++◌, length, take, drop, None, refl, sym, ◌∙◌, ap, arith}
use Rattle.std.specs.Prelude.{if◌then◌else◌}
use Rattle.text_grammar.specs.declared.places.Place.{Place}
use Rattle.text_grammar.specs.declared.places.Place.TheVariants as places
use Rattle.text_events.specs.declared.event.Event.{Event}
use Rattle.term_table.specs.Terms.{Term}
use Rattle.text_types.specs.Spelling.{Spelling}
use Rattle.text_types.specs.Items.{Aliases, begins}
use Rattle.use_kinds.specs.Clashes.{is_use}
use Rattle.use_kinds.specs.Written.{Waiting, argument_type, count_of, function_type, inputs_of, left_at, or_all, passed, results_of, signature_behind, types_at, types_from}
use Rattle.use_kinds.specs.Laws.{AllAt, all_of, is_operand_word, is_result_name, is_result_word, uses_in, values_in}

take_none : (n : ℕ) → take {A = Term} n [] ≡ []
take_none zero = refl
take_none (suc n) = refl

take_sum : (c n : ℕ) (xs : List Term) → take c xs ++ take n (drop c xs) ≡ take (c + n) xs
take_sum zero n xs = let s : 0 + n ≡ n = omega arith in ap (λ m. take m xs) (sym s)
take_sum (suc c) n [] = take_none n ∙ sym (take_none (suc c + n))
take_sum (suc c) n (x ∷ xs) = let s : suc c + n ≡ suc (c + n) = omega arith in ap (λ ys. x ∷ ys) (take_sum c n xs) ∙ ap (λ m. take m (x ∷ xs)) (sym s)

take_one : (n : ℕ) (xs : List Term) → take 1 xs ++ take n (drop 1 xs) ≡ take (suc n) xs
take_one n xs = let s : 1 + n ≡ suc n = omega arith in take_sum 1 n xs ∙ ap (λ m. take m xs) s

operand_case : (p : Place) → is_operand_word p ≡ true → (s : Waiting) (count : ℕ) (function argument : Term) (n : ℕ)
    → types_at s p count function argument ++ take n (left_at s p count function).inputs ≡ take (if is_use p then suc n else n) s.inputs
operand_case places.OperandsOpen e s count function argument n = refl
operand_case places.UseName e s count function argument n = take_one n s.inputs
operand_case places.UseNumber e s count function argument n = refl
operand_case places.UseComma e s count function argument n = refl
operand_case _ e s count function argument n = absurd cc

result_case : (p : Place) → is_result_word p ≡ true → (s : Waiting) (count : ℕ) (function argument : Term) (n : ℕ)
    → types_at s p count function argument ++ take n (or_all (left_at s p count function).results (results_of function)) ≡ take (if is_result_name p then count + n else n) (or_all s.results (results_of function))
result_case places.ResultName e s count function argument n = take_sum count n (or_all s.results (results_of function))
result_case places.ResultColon e s count function argument n = refl
result_case places.ResultNumber e s count function argument n = refl
result_case places.ResultComma e s count function argument n = refl
result_case places.ResultsEquals e s count function argument n = refl
result_case _ e s count function argument n = absurd cc

no_signature : (p : Place) → is_result_word p ≡ true → (here : List Event) (behind : ℕ → List Event) → passed p here behind 0 ≡ behind 0
no_signature places.ResultName e here behind = refl
no_signature places.ResultColon e here behind = refl
no_signature places.ResultNumber e here behind = refl
no_signature places.ResultComma e here behind = refl
no_signature places.ResultsEquals e here behind = refl
no_signature _ e here behind = absurd cc

begin_case : (p : Place) → p ≡ places.OpName → (s : Waiting) (count : ℕ) (function argument : Term) → (types_at s p count function argument ≡ []) × ((left_at s p count function).inputs ≡ inputs_of function)
begin_case p e s count function argument = rw e (refl, refl)

module _ (words : Spelling) (aliases : Aliases) (behind : List Event) where
  operands_in : (s : Waiting) (operands : List Event) → AllAt is_operand_word operands
      → all_of (take (length operands) (types_from words aliases s (operands ++ behind))) ≡ take (uses_in operands) s.inputs
  operands_in s [] all = refl
  operands_in s (e ∷ es) all =
      let count = count_of words (es ++ behind) in
      let function = function_type words aliases (es ++ behind) in
      let argument = argument_type words aliases (es ++ behind) in
      ap (λ ts. types_at s e.place count function argument ++ ts) (operands_in (left_at s e.place count function) es all.1)
      ∙ operand_case e.place all.0 s count function argument (uses_in es)

  pub operands_are : (s : Waiting) (name : Event) (operands : List Event) → name.place ≡ places.OpName → AllAt is_operand_word operands
      → all_of (take (suc (length operands)) (types_from words aliases s (name ∷ operands ++ behind))) ≡ take (uses_in operands) (inputs_of (function_type words aliases (operands ++ behind)))
  operands_are s name operands is all =
      let count = count_of words (operands ++ behind) in
      let function = function_type words aliases (operands ++ behind) in
      let argument = argument_type words aliases (operands ++ behind) in
      let begin = begin_case name.place is s count function argument in
      ap (λ ts. ts ++ all_of (take (length operands) (types_from words aliases (left_at s name.place count function) (operands ++ behind)))) begin.0
      ∙ operands_in (left_at s name.place count function) operands all ∙ ap (take (uses_in operands)) begin.1

  results_in : (s : Waiting) (names : List Event) → AllAt is_result_word names
      → all_of (take (length names) (types_from words aliases s (names ++ behind))) ≡ take (values_in words names behind) (or_all s.results (results_of (function_type words aliases (names ++ behind))))
  results_in s [] all = refl
  results_in s (e ∷ es) all =
      let count = count_of words (es ++ behind) in
      let function = function_type words aliases (es ++ behind) in
      let argument = argument_type words aliases (es ++ behind) in
      let same : signature_behind (e ∷ es ++ behind) 0 ≡ signature_behind (es ++ behind) 0 = no_signature e.place all.0 (e ∷ es ++ behind) (signature_behind (es ++ behind)) in
      ap (λ ts. types_at s e.place count function argument ++ ts) (results_in (left_at s e.place count function) es all.1)
      ∙ result_case e.place all.0 s count function argument (values_in words es behind)
      ∙ ap (λ xs. take (values_in words (e ∷ es) behind) (or_all s.results (results_of (begins words aliases xs)))) (sym same)

  pub results_are : (s : Waiting) (names : List Event) → s.results ≡ None → AllAt is_result_word names
      → all_of (take (length names) (types_from words aliases s (names ++ behind))) ≡ take (values_in words names behind) (results_of (function_type words aliases (names ++ behind)))
  results_are s names none all =
      results_in s names all ∙ ap (λ o. take (values_in words names behind) (or_all o (results_of (function_type words aliases (names ++ behind))))) none
