-- What an operation without regions does: a question with a way to go on.
use Rattle.std.specs.Prelude.{ℕ, List}
use Rattle.number_model.specs.Answers.{Answer, Gives}
use Rattle.number_model.specs.Answers.{Answer as answer}
use Rattle.operation_model.specs.Values.{Value, Place}

-- what an operation asks of the memory
pub data Question : Type 0 where
  -- an integer of this width, from a place
  Load : ℕ → Place → Question
  -- to put an integer of this width, the second number, to a place
  Store : ℕ → ℕ → Place → Question
  -- a new buffer, by its alignment and its number of bytes
  Allocate : ℕ → ℕ → Question
  -- to end the buffer that begins at a place
  Free : Place → Question

-- what an operation does with its operands at hand
pub data Doing : Type 0 where
  -- it is over, with these results
  Ends : List Value → Doing
  -- it asks the memory and goes on with the answer
  Asks : Question → (List Value → Doing) → Doing
  -- it calls the function of this name with these values, and goes on with what that returns
  Calls : List ℕ → List Value → (List Value → Doing) → Doing
  -- it goes to the block of this label with these values
  Jumps : ℕ → List Value → Doing
  -- the function returns these values
  Returns : List Value → Doing
  Undefined : Doing
  Outside : Doing

-- going on with what was given
abbrev pub on : {A : Type 0} → Answer A → (A → Doing) → Doing
on (Gives a) next = next a
on answer.Undefined next = Undefined
on answer.Outside next = Outside
