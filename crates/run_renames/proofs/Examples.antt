-- Worked examples: a function under other numbers, and what becomes of one whose numbers are not taken one to one.
use Rattle.std.proofs.Common.{◌≡◌, ℕ, List, [], ◌∷◌, None, Some, refl}
use Rattle.std.specs.Prelude.{pos, codes}
use Rattle.number_model.specs.Arithmetic.{no_flags, Subtract}
use Rattle.operation_model.specs.Pures.{TwoNumbers}
use Rattle.operation_model.specs.Calling.{Bare}
use Rattle.operation_model.specs.Forms.{Branch, Computes, Return}
use Rattle.form_model.specs.Codes.{OpsEnd, Op, BlocksEnd, Block, RegionsEnd, Function}
use Rattle.machine_model.specs.Worlds.{Outside}
use Rattle.meaning_model.specs.Buffers.{no_heap, ask_heap}
use Rattle.meaning_model.specs.Meaning.{End, Done, Stops, stepped}

-- the difference of the arguments a and b under the number c, from the block l on by way of the block m
abbrev difference : ℕ → ℕ → ℕ → ℕ → ℕ → List Function
difference l m a b c = record {
  name = codes "f";
  face = record { inputs = Some (32 ∷ 32 ∷ []); outputs = Some (32 ∷ []); packing = Bare };
  shapes = None ∷ None ∷ [];
  body = Block l (a ∷ b ∷ []) (Op Branch [] [] (m ∷ []) RegionsEnd OpsEnd)
      (Block m [] (Op (Computes (TwoNumbers (Subtract no_flags) 32)) (c ∷ []) (a ∷ b ∷ []) [] RegionsEnd (Op (Return Bare) [] (c ∷ []) [] RegionsEnd OpsEnd)) BlocksEnd);
} ∷ []

abbrev end_from : List Function → End
end_from fs = (stepped ask_heap no_heap fs (codes "f") (pos 7 ∷ pos 5 ∷ []) [] 9).end

-- numbers and labels are one to one: a result may have the number of a label
as_it_is : end_from (difference 0 1 0 1 2) ≡ Done (pos 2 ∷ [])
as_it_is = refl

other_numbers : end_from (difference 4 3 9 2 4) ≡ Done (pos 2 ∷ [])
other_numbers = refl

-- two arguments under one number: the second one hides the first
one_number : end_from (difference 0 1 0 0 2) ≡ Done (pos 0 ∷ [])
one_number = refl

-- two blocks under one label: the first one is found again, and takes two values
one_label : end_from (difference 0 0 0 1 2) ≡ Stops Outside
one_label = refl
