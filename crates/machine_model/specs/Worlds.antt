-- Memories, and what the outside tells and is told.
use Rattle.std.specs.Prelude.{◌≡◌, ℕ, List, [], ◌∷◌, ◌++◌, ℤ}
use Rattle.number_model.specs.Numbers.{signed, wrapped}
use Rattle.operation_model.specs.Values.{Value}

-- why a run stops before its function returns: no fuel is left, it is undefined, it is outside of what has a meaning, or memory is short
pub data Stop : Type 0 where
  More : Stop
  Undefined : Stop
  Outside : Stop
  NoRoom : Stop

-- what a memory replies to a question
pub data Reply (State : Type 0) : Type 0 where
  Answers : List Value → State → Reply State
  Refuses : Stop → Reply State

-- a call of an external function: its name, its arguments and its answers as signed numbers
pub record ExternalCall : Type 0 where
  pub name : List ℕ
  pub args : List ℤ
  pub answers : List ℤ

-- the state of a run apart from its functions: the memory, the answers that are left, and the calls so far, the first one first
pub record World (State : Type 0) : Type 0 where
  pub memory : State
  pub answers : List ℤ
  pub trace : List ExternalCall

-- the next answers as numbers of these widths: 0 where none is left
abbrev pub answered : List ℕ → List ℤ → List ℕ
answered [] answers = []
answered (w ∷ ws) [] = 0 ∷ answered ws []
answered (w ∷ ws) (z ∷ zs) = wrapped w z ∷ answered ws zs

-- the answers that are left behind so many
abbrev pub unanswered : List ℕ → List ℤ → List ℤ
unanswered (w ∷ ws) (z ∷ zs) = unanswered ws zs
unanswered _ answers = answers

-- numbers of these widths as signed ones
abbrev pub all_signed : List ℕ → List ℕ → List ℤ
all_signed (w ∷ ws) (n ∷ ns) = signed w n ∷ all_signed ws ns
all_signed _ _ = []

-- the world behind an external call
abbrev pub told : {State : Type 0} → List ℕ → List ℕ → ExternalCall → World State → World State
told inputs outputs call w = record { memory = w.memory; answers = unanswered outputs w.answers; trace = w.trace ++ call ∷ [] }

-- the second trace begins with the first
pub record IsPrefix (xs ys : List ExternalCall) : Type 0 where
  pub rest : List ExternalCall
  pub is : ys ≡ xs ++ rest
