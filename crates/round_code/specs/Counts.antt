-- Which loops and answers those of the code stand for.
use Rattle.std.specs.Prelude.{ℕ, ℤ, Option, Some, None}
use Rattle.number_model.specs.Numbers.{wrapped}
use Rattle.number_model.specs.Answers.{Answer}
use Rattle.form_model.specs.Codes.{Blocks}
use Rattle.machine_model.specs.Machine as model
use Rattle.value_code.specs.declared.look.Looked.{Looked}
use Rattle.value_code.specs.Models.{answer_of}
use Rattle.round_code.specs.declared.counting.Counting.{Counting}
use Rattle.round_code.specs.declared.counting.Start.{Start}

-- a loop that counts, with this body
abbrev pub counting_of : Counting → Blocks → model.Counting
counting_of c body = record { width = c.width.bits; upper = c.upper; by = c.by; body = body }

-- the first number of a loop that begins, and the loop with this body
abbrev pub start_of : Looked Start → Blocks → Answer (ℕ × model.Counting)
start_of l body = answer_of (λ s. (s.first, counting_of s.counting body)) l

-- an answer as a number of this width, 0 where there is none
abbrev pub answer_for : ℕ → Option ℤ → ℕ
answer_for w None = 0
answer_for w (Some z) = wrapped w z
