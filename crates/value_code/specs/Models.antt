-- What the values of the code stand for.
use Rattle.std.specs.Prelude.{ℕ, ℤ, Bool, not, nat_lt, List, [], ◌∷◌, map, Option, Some, None}
use Rattle.number_model.specs.Numbers.{signed}
use Rattle.number_model.specs.Answers.{Answer, and_then, undefined_if, with_answer}
use Rattle.number_model.specs.Answers.{Answer as answer}
use Rattle.operation_model.specs.Values as model
use Rattle.operation_model.specs.Pures.{is_index, one}
use Rattle.std.specs.Borrow.{Bor}
use Rattle.value_code.specs.declared.value.Value.{Value}
use Rattle.value_code.specs.declared.value.Value.TheOpen.{Value-F}
use Rattle.value_code.specs.declared.value.Value.TheFolds.{fold-Value}
use Rattle.value_code.specs.declared.value.Place.{Place}
use Rattle.value_code.specs.declared.look.Looked.{Looked}
use Rattle.value_code.specs.declared.look.Looked.TheVariants as looked

abbrev pub value_at : Value-F model.Value → model.Value
value_at (Value-F.Integer n) = model.Integer n
value_at (Value-F.Pointer buffer offset) = model.Pointer buffer offset
value_at Value-F.Unset = model.Unset
value_at (Value-F.Aggregate parts) = model.together parts

unfoldable pub value_of : Value → model.Value
value_of = fold-Value model.Value value_at

abbrev pub values_of : List Value → List model.Value
values_of vs = map value_of vs

abbrev pub answer_of : {T A : Type 0} → (T → A) → Looked T → Answer A
answer_of f (looked.Gives t) = answer.Gives (f t)
answer_of f looked.Undefined = answer.Undefined
answer_of f looked.Outside = answer.Outside

abbrev pub looked_of : Looked ℕ → Answer ℕ
looked_of l = answer_of (λ n. n) l

abbrev pub place_of : Place → model.Place
place_of p = record { buffer = p.buffer; offset = p.offset }

abbrev pub place_looked_of : Looked Place → Answer model.Place
place_looked_of l = answer_of place_of l

-- a part that is there, else outside
abbrev pub part_of : Option Value → Answer model.Value
part_of None = answer.Outside
part_of (Some v) = answer.Gives (value_of v)

-- an integer as the one result
abbrev pub integer_of : Looked ℕ → Answer (List model.Value)
integer_of l = answer_of (λ n. model.Integer n ∷ []) l

abbrev pub truth_of : Looked Bool → Answer Bool
truth_of l = answer_of (λ b. b) l

-- a place as a pointer to it
abbrev pub pointer_at : Place → model.Value
pointer_at p = model.Pointer p.buffer p.offset

abbrev pub pointer_of : Looked Place → Answer (List model.Value)
pointer_of l = answer_of (λ p. pointer_at p ∷ []) l

-- the value behind a reference as the one result
abbrev pub values_behind : Looked (Bor Value) → Answer (List model.Value)
values_behind l = answer_of (λ r. value_of r.now ∷ []) l

-- the size of a memref of this rank at a dimension
abbrev pub size_of : ℕ → ℕ → model.Value → Answer (List model.Value)
size_of rank i m = undefined_if (not (nat_lt i rank)) (with_answer one (model.part_at (model.size_path i) m))

-- the part at a path as an integer
abbrev pub number_in : List ℕ → model.Value → Answer ℕ
number_in path m = and_then (model.part_at path m) model.number

-- an index and the stride of its dimension
abbrev pub index_and_stride : ℕ → model.Value → ℕ → model.Value → Answer (ℕ × ℕ)
index_and_stride bits m k x =
    and_then (model.number x) (λ i. and_then (number_in (model.size_path k) m) (λ size. and_then (number_in (model.stride_path k) m) (λ stride.
    undefined_if (not (is_index bits i size)) (answer.Gives (i, stride)))))

abbrev pub step_of : Looked (record { 0 : ℕ; 1 : ℕ }) → Answer (ℕ × ℕ)
step_of l = answer_of (λ p. (p.0, p.1)) l

-- a sum as a signed number of this width
abbrev pub sum_of : ℕ → Looked ℕ → Answer ℤ
sum_of bits l = answer_of (signed bits) l

-- the place of the aligned pointer of a memref
abbrev pub aligned_place : model.Value → Answer model.Place
aligned_place m = and_then (model.part_at model.aligned_path m) model.place_of

-- a place as a pointer to it
abbrev pub place_at : Looked Place → Answer model.Value
place_at l = answer_of pointer_at l
