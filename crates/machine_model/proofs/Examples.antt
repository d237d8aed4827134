-- Worked examples of the world outside.
use Rattle.std.proofs.Common.{◌≡◌, ℕ, [], ◌∷◌, refl}
use Rattle.std.specs.Prelude.{pos, negsuc}
use Rattle.machine_model.specs.Worlds.{ExternalCall, answered, unanswered, told}

-- answers are taken modulo 2 to the width, and 0 where none is left
three_answers : answered (8 ∷ 8 ∷ 1 ∷ []) (negsuc 0 ∷ pos 300 ∷ []) ≡ 255 ∷ 44 ∷ 0 ∷ []
three_answers = refl

answers_left : unanswered (8 ∷ 8 ∷ []) (pos 1 ∷ pos 2 ∷ pos 3 ∷ []) ≡ pos 3 ∷ []
answers_left = refl

abbrev call : ℕ → ExternalCall
call n = record { name = []; args = pos n ∷ []; answers = [] }

-- the first call is told first
order : (told {State = ℕ} [] [] (call 2) (told [] [] (call 1) (record { memory = 0; answers = []; trace = [] }))).trace ≡ call 1 ∷ call 2 ∷ []
order = refl
