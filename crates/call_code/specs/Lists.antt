-- Lists of values that are made from the front.
use Rattle.std.specs.Prelude.{◌≡◌, ℕ, Bool, true, false, List, [], ◌∷◌, ◌++◌, ◌≤◌, IfSome, drop, length, map, Option, Some, None}
use Rattle.number_model.specs.Answers.{Answer, with_answer}
use Rattle.number_model.specs.Answers.{Answer as answer}
use Rattle.operation_model.specs.Values as model
use Rattle.operation_model.specs.Calling.{Shapes, spread, gathered}
use Rattle.value_code.specs.declared.value.Value.{Value}
use Rattle.value_code.specs.Models.{values_of}

-- a list that is there, else outside
abbrev pub list_of : Option (List Value) → Answer (List model.Value)
list_of None = answer.Outside
list_of (Some vs) = answer.Gives (values_of vs)

-- what was made, before what is still to come
abbrev pub before : List Value → Answer (List model.Value) → Answer (List model.Value)
before done rest = with_answer (λ vs. values_of done ++ vs) rest

abbrev pub IsPut : Bool → List Value → List Value → List (List ℕ) → model.Value → List (List ℕ) → Type 0
IsPut true old new paths v more = before new (model.parts_at more v) ≡ before old (model.parts_at (paths ++ more) v)
IsPut false old new paths v more = model.parts_at (paths ++ more) v ≡ answer.Outside

-- the parts at these paths were put to the list, or one of them isn't there
pub record Puts (done : Bool) (old new : List Value) (paths : List (List ℕ)) (v : model.Value) : Type 0 where
  pub is : (more : List (List ℕ)) → IsPut done old new paths v more

-- the paths of a field's places
abbrev pub places : ℕ → ℕ → List (List ℕ)
places field rank = map (λ i. field ∷ i ∷ []) (model.counted 0 rank)

abbrev pub IsSpread : Bool → List Value → List Value → Option ℕ → model.Value → Shapes → List model.Value → Type 0
IsSpread true old new shape v shapes vs = before new (spread shapes vs) ≡ before old (spread (shape ∷ shapes) (v ∷ vs))
IsSpread false old new shape v shapes vs = spread (shape ∷ shapes) (v ∷ vs) ≡ answer.Outside

-- an argument was put to the list, by its shape, or has no such fields
pub record Spreads (done : Bool) (old new : List Value) (shape : Option ℕ) (v : model.Value) : Type 0 where
  pub is : (shapes : Shapes) (vs : List model.Value) → IsSpread done old new shape v shapes vs

abbrev pub IsTaken : Option ℕ → List Value → List Value → Option ℕ → List Value → Shapes → Type 0
IsTaken (Some n) old new shape vs shapes = before new (gathered shapes (values_of (drop n vs))) ≡ before old (gathered (shape ∷ shapes) (values_of vs))
IsTaken None old new shape vs shapes = gathered (shape ∷ shapes) (values_of vs) ≡ answer.Outside

-- so many values were taken for an argument, which was put to the list, or they are too few
pub record Takes (taken : Option ℕ) (old new : List Value) (shape : Option ℕ) (vs : List Value) : Type 0 where
  pub is : (shapes : Shapes) → IsTaken taken old new shape vs shapes
  pub within : IfSome taken (λ n. n ≤ length vs)
