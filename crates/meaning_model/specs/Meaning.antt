-- The meaning of a module: what a run of one of its functions comes to.
use Rattle.std.specs.Prelude.{ℕ, Bool, ◌||◌, List, [], ◌∷◌, ℤ, if◌then◌else◌}
use Rattle.tree_model.specs.declared.op_tree.ModuleTree.{ModuleTree}
use Rattle.number_model.specs.Numbers.{wrapped, fits_signed, fits_unsigned}
use Rattle.number_model.specs.Answers.{Answer, Gives, and_then, with_answer, present}
use Rattle.number_model.specs.Answers.{Answer as answer}
use Rattle.operation_model.specs.Values.{Value, Integer, numbers}
use Rattle.operation_model.specs.Doings.{Question}
use Rattle.operation_model.specs.Calling.{unpacked}
use Rattle.form_model.specs.Codes.{Blocks, BlocksEnd, Block, Function, find_function}
use Rattle.machine_model.specs.Worlds.{Stop, Undefined, Outside, Reply, ExternalCall, World, all_signed}
use Rattle.machine_model.specs.Machine.{Spot, begins, at_top, Outcome, Finish, Returned, Stopped, exec}
use Rattle.machine_model.specs.Structured.{runs, outcome_of}
use Rattle.meaning_model.specs.Buffers.{Heap, no_heap, ask_heap}
use Rattle.meaning_model.specs.Cells.{Cells, no_cells, ask_cells}
use Rattle.form_model.specs.Decoding.{functions_of}

-- how a run of a whole function ends: with its results as signed numbers, or before it does
pub data End : Type 0 where
  Done : List ℤ → End
  Stops : Stop → End

-- what a run of a whole function comes to: its end, the calls of external functions, and the memory behind it
pub record Result (State : Type 0) : Type 0 where
  pub end : End
  pub trace : List ExternalCall
  pub memory : State

-- whether an argument fits a width: as a signed or as an unsigned number
abbrev pub fits : ℕ → ℤ → Bool
fits w z = fits_signed w z || fits_unsigned w z

-- the arguments as values, where they are as many as the widths and each one fits
abbrev pub arguments : List ℕ → List ℤ → Answer (List Value)
arguments [] [] = Gives []
arguments (w ∷ ws) (z ∷ zs) =
    if fits w z then with_answer (λ vs. Integer (wrapped w z) ∷ vs) (arguments ws zs) else answer.Outside
arguments _ _ = answer.Outside

-- an entry: a function with blocks, whose parameters and results are all integers, with arguments that fit
pub record Entry : Type 0 where
  pub outputs : List ℕ
  pub function : Function
  pub spot : Spot

abbrev pub with_blocks : Blocks → Function → Answer Function
with_blocks BlocksEnd f = answer.Outside
with_blocks (Block l args ops more) f = Gives f

abbrev pub entry_at : Function → List ℤ → Answer Entry
entry_at f args =
    and_then (present f.face.inputs) (λ inputs. and_then (present f.face.outputs) (λ outputs.
    and_then (arguments inputs args) (λ vs. with_answer (λ s. record { outputs = outputs; function = f; spot = s }) (begins f vs))))

abbrev pub entry_of : List Function → List ℕ → List ℤ → Answer Entry
entry_of fs name args = and_then (present (find_function name fs)) (λ f. and_then (with_blocks f.body f) (λ g. entry_at g args))

-- the end of a function that has returned: an unset result is undefined
abbrev pub end_of : Answer (List ℤ) → End
end_of (Gives zs) = Done zs
end_of answer.Undefined = Stops Undefined
end_of answer.Outside = Stops Outside

abbrev pub results : Entry → List Value → Answer (List ℤ)
results e vs = and_then (unpacked e.function.face.packing vs) (λ xs. with_answer (all_signed e.outputs) (numbers xs))

abbrev pub finished : Entry → Finish → End
finished e (Returned vs) = end_of (results e vs)
finished e (Stopped stop) = Stops stop

abbrev pub result_of : {State : Type 0} → Entry → Outcome State → Result State
result_of e o = record { end = finished e o.finish; trace = o.world.trace; memory = o.world.memory }

-- the world before a run
abbrev pub first_world : {State : Type 0} → State → List ℤ → World State
first_world m answers = record { memory = m; answers = answers; trace = [] }

-- a run that doesn't begin
abbrev pub no_run : {State : Type 0} → Stop → State → Result State
no_run stop m = record { end = Stops stop; trace = []; memory = m }

-- a run from an entry, where there is one
abbrev pub from_entry : {State : Type 0} → Answer Entry → State → (Entry → Result State) → Result State
from_entry (Gives e) m run = run e
from_entry answer.Undefined m run = no_run Undefined m
from_entry answer.Outside m run = no_run Outside m

-- The structured meaning S of a function of these, with arguments, the answers of external functions, and fuel.
abbrev pub structured : List Function → List ℕ → List ℤ → List ℤ → ℕ → Result Heap
structured fs name args answers fuel =
    from_entry (entry_of fs name args) no_heap (λ e.
    result_of e (outcome_of (runs ask_heap fs e.spot.ops e.spot.blocks e.spot.env fuel (first_world no_heap answers))))

-- The same by the machine, over any memory.
abbrev pub stepped : {State : Type 0} → (Question → State → Reply State) → State → List Function → List ℕ → List ℤ → List ℤ → ℕ → Result State
stepped ask m fs name args answers fuel =
    from_entry (entry_of fs name args) m (λ e. result_of e (exec ask fs fuel (at_top e.spot) [] (first_world m answers)))

-- The meaning S of a module, where an `index` has so many bits.
abbrev pub means_s : ModuleTree → List ℕ → List ℤ → List ℤ → ℕ → ℕ → Result Heap
means_s m name args answers fuel bits = structured (functions_of bits m) name args answers fuel

-- The memory that a run of S needs: the sum over its allocations.
abbrev pub need_of : Result Heap → ℕ
need_of r = r.memory.need

-- The meaning L of a module of llvm operations: the machine over so many cells. No llvm operation has a type with an `index`.
abbrev pub means_l : ModuleTree → List ℕ → List ℤ → List ℤ → ℕ → ℕ → Result Cells
means_l m name args answers cells fuel = stepped ask_cells (no_cells cells) (functions_of 64 m) name args answers fuel
