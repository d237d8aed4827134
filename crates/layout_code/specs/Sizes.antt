-- Sizes of new memrefs.
use Rattle.std.specs.Prelude.{◌≡◌, ℕ, ◌-◌, ◌^◌, ◌≤◌, nat_lt, not, List, [], ◌∷◌, map, drop, length, Option}
use Rattle.number_model.specs.Answers.{Answer, and_then, with_answer, undefined_if}
use Rattle.number_model.specs.Answers.{Answer as answer}
use Rattle.operation_model.specs.Values as values
use Rattle.operation_model.specs.Straight as model
use Rattle.value_code.specs.declared.value.Value.{Value}
use Rattle.value_code.specs.declared.look.Looked.{Looked}
use Rattle.value_code.specs.declared.look.Looked.TheVariants as looked
use Rattle.value_code.specs.Models.{answer_of, value_of, values_of}
use Rattle.layout_code.specs.declared.sizes.Size.{Size}
use Rattle.layout_code.specs.declared.sizes.Taken.{Taken}

abbrev pub size_of : Size → model.Size
size_of s = record { value = value_of s.value; number = s.number }

abbrev pub sizes_of : List Size → List model.Size
sizes_of ss = map size_of ss

abbrev pub size_answer : Looked Size → Answer model.Size
size_answer l = answer_of size_of l

-- a size where the number is a signed one of its width that is 0 or more
abbrev pub checked : ℕ → values.Value → ℕ → Answer model.Size
checked bits v n = undefined_if (not (nat_lt n (2 ^ (bits - 1)))) (answer.Gives (record { value = v; number = n }))

-- a size with a number of operands
abbrev pub counted : ℕ → Answer model.Size → Answer (model.Size × ℕ)
counted count a = with_answer (λ s. (s, count)) a

abbrev pub taken_answer : Looked Taken → Answer (model.Size × ℕ)
taken_answer l = answer_of (λ t. (size_of t.size, t.count)) l

abbrev pub IsTaken : Looked Taken → ℕ → Option ℕ → List Value → List (Option ℕ) → Type 0
IsTaken (looked.Gives t) bits fixed xs more =
    model.sizes_from bits (fixed ∷ more) (values_of xs) ≡ with_answer (λ ss. size_of t.size ∷ ss) (model.sizes_from bits more (values_of (drop t.count xs)))
IsTaken looked.Undefined bits fixed xs more = model.sizes_from bits (fixed ∷ more) (values_of xs) ≡ answer.Undefined
IsTaken looked.Outside bits fixed xs more = model.sizes_from bits (fixed ∷ more) (values_of xs) ≡ answer.Outside

abbrev pub IsWithin : Looked Taken → List Value → Type 0
IsWithin (looked.Gives t) xs = t.count ≤ length xs
IsWithin _ xs = Unit {0}

-- the next size, with the operands that it takes
pub record Takes (l : Looked Taken) (bits : ℕ) (fixed : Option ℕ) (xs : List Value) : Type 0 where
  pub is : (more : List (Option ℕ)) → IsTaken l bits fixed xs more
  pub within : IsWithin l xs
