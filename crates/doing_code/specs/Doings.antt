-- What a doing of the code stands for.
use Rattle.std.specs.Prelude.{◌≡◌, ℕ, ◌^◌, min, List, [], ◌∷◌, length}
use Rattle.number_model.specs.Answers.{Answer}
use Rattle.operation_model.specs.Values as values
use Rattle.operation_model.specs.Doings as model
use Rattle.operation_model.specs.Doings.{Question as question}
use Rattle.operation_model.specs.Doings.{Doing as doing}
use Rattle.operation_model.specs.Calling as calling
use Rattle.value_code.specs.declared.value.Value.{Value}
use Rattle.value_code.specs.Models.{value_of, values_of, place_of}
use Rattle.run_code.specs.Views.{packing_of}
use Rattle.doing_code.specs.declared.kinds.Doing.{Doing}
use Rattle.doing_code.specs.declared.kinds.Doing.TheVariants as code

-- the results from what a function returns
abbrev pub answered : calling.Packing → List values.Value → model.Doing
answered p answer = model.on (calling.unpacked p answer) doing.Ends

-- a new memref at the pointer that was allocated, with these sizes and strides
abbrev pub made_at : List values.Value → List values.Value → List values.Value → model.Doing
made_at sizes strides (p ∷ []) = doing.Ends (values.descriptor (length sizes) p p (values.Integer 0) sizes strides ∷ [])
made_at sizes strides _ = doing.Outside

-- the number of bytes is the least of the one asked for and 2 to the 65
pub record Asked (alignment n : ℕ) (k : List values.Value → model.Doing) (d : model.Doing) : Type 0 where
  pub size : ℕ
  pub capped : n ≡ min size (2 ^ 65)
  pub goes_on : List values.Value → model.Doing
  pub is : d ≡ doing.Asks (question.Allocate alignment size) goes_on
  pub same : (ys : List values.Value) → goes_on ys ≡ k ys

abbrev pub Does : Doing → model.Doing → Type 0
Does (code.Gives v) d = doing.Ends (value_of v ∷ []) ≡ d
Does (code.Loads w p) d = doing.Asks (question.Load w.bits (place_of p)) doing.Ends ≡ d
Does (code.Stores w n p) d = doing.Asks (question.Store w.bits n (place_of p)) doing.Ends ≡ d
Does (code.Allocates alignment n) d = Asked alignment n doing.Ends d
Does (code.Makes m) d = Asked m.alignment m.bytes (made_at (values_of m.sizes) (values_of m.strides)) d
Does (code.Frees p) d = doing.Asks (question.Free (place_of p)) doing.Ends ≡ d
Does (code.Calls f vs p) d = doing.Calls f.now.name (values_of vs) (answered (packing_of p)) ≡ d
Does (code.Jumps l vs) d = doing.Jumps l (values_of vs) ≡ d
Does (code.Returns vs) d = doing.Returns (values_of vs) ≡ d
Does code.Undefined d = doing.Undefined ≡ d
Does code.Outside d = doing.Outside ≡ d
