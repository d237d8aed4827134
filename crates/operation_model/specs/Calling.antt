-- How values are handed over at calls and returns.
use Rattle.std.specs.Prelude.{ℕ, zero, suc, ◌+◌, ◌*◌, nat_le, nat_lt, List, [], ◌∷◌, ◌++◌, length, take, drop, Option, Some, None, if◌then◌else◌}
use Rattle.number_model.specs.Answers.{Answer, Gives, Outside, and_then, with_answer}
use Rattle.operation_model.specs.Values.{Value, inside, together, parts_at, field_paths}

-- what a function returns is one value or none: several results stand together as a struct
pub data Packing : Type 0 where
  Bare : Packing
  Together : Packing

abbrev pub packed : Packing → List Value → List Value
packed Bare vs = vs
packed Together vs = together vs ∷ []

abbrev pub unpacked : Packing → List Value → Answer (List Value)
unpacked Bare vs = Gives vs
unpacked Together (v ∷ []) = inside v
unpacked Together _ = Outside

-- how so many results are handed over
abbrev pub packing_of : ℕ → Packing
packing_of n = if nat_le n 1 then Bare else Together

-- how each argument is handed over: as it is, or where it is a memref of a rank as the fields of its descriptor one after another
abbrev pub Shapes : Type 0
Shapes = List (Option ℕ)

-- the values that are handed over for arguments
abbrev pub spread : Shapes → List Value → Answer (List Value)
spread [] [] = Gives []
spread (None ∷ shapes) (v ∷ vs) = with_answer (λ rest. v ∷ rest) (spread shapes vs)
spread (Some rank ∷ shapes) (v ∷ vs) =
    and_then (parts_at (field_paths rank) v) (λ fields. with_answer (λ rest. fields ++ rest) (spread shapes vs))
spread _ _ = Outside

-- the number of fields of a descriptor
abbrev pub field_count : ℕ → ℕ
field_count rank = 3 + 2 * rank

-- the descriptor of these fields
abbrev pub from_fields : ℕ → List Value → Value
from_fields zero fields = together fields
from_fields (suc rank) fields =
    together (take 3 fields ++ together (take (suc rank) (drop 3 fields)) ∷ together (drop (4 + rank) fields) ∷ [])

-- the descriptor of the first fields, before the other arguments
abbrev pub with_fields : ℕ → List Value → Answer (List Value) → Answer (List Value)
with_fields rank vs rest =
    if nat_lt (length vs) (field_count rank) then Outside else with_answer (λ args. from_fields rank (take (field_count rank) vs) ∷ args) rest

-- the arguments from the values that are handed over
abbrev pub gathered : Shapes → List Value → Answer (List Value)
gathered [] [] = Gives []
gathered (None ∷ shapes) (v ∷ vs) = with_answer (λ args. v ∷ args) (gathered shapes vs)
gathered (Some rank ∷ shapes) vs = with_fields rank vs (gathered shapes (drop (field_count rank) vs))
gathered _ _ = Outside
