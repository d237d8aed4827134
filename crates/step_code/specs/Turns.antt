-- What a turn of the code stands for.
use Rattle.std.specs.Prelude.{◌≡◌, ℕ, false, List, [], ◌∷◌, length, Some}
use Rattle.number_model.specs.Answers.{present}
use Rattle.operation_model.specs.Values as values
use Rattle.operation_model.specs.Doings.{Doing, Question}
use Rattle.operation_model.specs.Straight.{does}
use Rattle.form_model.specs.Codes.{Blocks, Env, find_block, lookups}
use Rattle.machine_model.specs.Worlds.{Reply, Answers, Refuses}
use Rattle.machine_model.specs.Worlds.{Stop as stop}
use Rattle.machine_model.specs.Worlds as worlds
use Rattle.machine_model.specs.Machine as model
use Rattle.run_code.specs.declared.function.Operation.{Operation, out-Operation}
use Rattle.run_code.specs.Views.{form_of, packing_of}
use Rattle.value_code.specs.Models.{values_of}
use Rattle.table_code.specs.Agreement.{Agrees}
use Rattle.doing_code.specs.Doings.{answered}
use Rattle.frame_code.specs.declared.frame.Place.{Place}
use Rattle.frame_code.specs.declared.frame.Moving.{Moving}
use Rattle.frame_code.specs.declared.frame.Moving.TheVariants as moving
use Rattle.frame_code.specs.Frames.{Move, goes_to, has_regions, place_of}
use Rattle.step_code.specs.declared.turns.Stop.{Stop}
use Rattle.step_code.specs.declared.turns.Stop.TheVariants as code_stop
use Rattle.step_code.specs.declared.turns.Turn.{Turn}
use Rattle.step_code.specs.declared.turns.Turn.TheVariants as turn

abbrev pub stop_of : Stop → worlds.Stop
stop_of code_stop.More = stop.More
stop_of code_stop.Undefined = stop.Undefined
stop_of code_stop.Outside = stop.Outside
stop_of code_stop.NoRoom = stop.NoRoom

abbrev pub turn_of : Moving → Turn
turn_of moving.Went = turn.Went
turn_of moving.Undefined = turn.Stops code_stop.Undefined
turn_of moving.Outside = turn.Stops code_stop.Outside

-- Steps

-- a step without the memory, at a state of it
abbrev pub at_state : {S : Type 0} → S → Move → model.Step model.Place S
at_state s (model.Goes p u) = model.Goes p s
at_state s (model.Calls f xs k rs p u) = model.Calls f xs k rs p s
at_state s (model.Returns xs u) = model.Returns xs s
at_state s (model.Stops e u) = model.Stops e s

-- behind an operation, with these results
abbrev pub ends : List values.Value → model.Behind → Env → List model.Frame → Move
ends ys b env frames = goes_to b.results ys env b.rest b.blocks frames

abbrev pub place_behind : model.Behind → Env → List model.Frame → model.Place
place_behind b env frames = record { spot = record { ops = b.rest; blocks = b.blocks; env = env }; frames = frames }

-- behind an operation that has asked the memory, with the answers as results
abbrev pub after : {S : Type 0} → S → Reply S → model.Behind → Env → List model.Frame → model.Step model.Place S
after s reply b env frames = model.on_reply s reply (λ ys s1. at_state s1 (ends ys b env frames))

-- the descriptor at a pointer, with these sizes and strides
abbrev pub descriptor_at : values.Value → List values.Value → List values.Value → values.Value
descriptor_at p sizes strides = values.descriptor (length sizes) p p (values.Integer 0) sizes strides

-- the memref at the pointer to new bytes
abbrev pub memref_behind : List values.Value → List values.Value → model.Behind → Env → List model.Frame → List values.Value → Move
memref_behind sizes strides b env frames (p ∷ []) = ends (descriptor_at p sizes strides ∷ []) b env frames
memref_behind sizes strides b env frames _ = model.Stops stop.Outside tt

abbrev pub made : {S : Type 0} → S → Reply S → List values.Value → List values.Value → model.Behind → Env → List model.Frame → model.Step model.Place S
made s reply sizes strides b env frames = model.on_reply s reply (λ ys s1. at_state s1 (memref_behind sizes strides b env frames ys))

-- to the block of a label
abbrev pub jumps_to : ℕ → List values.Value → Blocks → Env → List model.Frame → Move
jumps_to l ys blocks env frames = model.stepping (present (find_block l blocks)) tt (λ t. goes_to t.args ys env t.ops blocks frames)

-- what is done
abbrev pub performed : {S : Type 0} → (Question → S → Reply S) → Doing → model.Behind → Env → List model.Frame → S → model.Step model.Place S
performed ask d b env frames s =
    model.within frames (model.performs ask d b.results (record { ops = b.rest; blocks = b.blocks; env = env }) s)

-- What is done by an operation without regions, whose operands have values. No list of them is made.
pub record Paired (d : Doing) (op : Operation) (env : Env) : Type 0 where
  pub xs : List values.Value
  pub are : Some xs ≡ lookups (out-Operation op).operands env
  pub alone : has_regions (form_of (out-Operation op).form) ≡ false
  pub does : d ≡ does (form_of (out-Operation op).form) (out-Operation op).successors xs

-- What a place and a memory of the code have come to, against a step of the definition. Where the run stops, nothing more is said of
-- them, and where the function returns nothing of the place.

pub record WentOn {M S : Type 0} (stands : M → S → Type 0) (p : Place) (m : M) (step : model.Step model.Place S) : Type 0 where
  pub env : Env
  pub state : S
  pub agrees : Agrees p.table env
  pub stand : stands m state
  pub is : step ≡ model.Goes (place_of p env) state

-- a call of a function with these values, by which the results are got from what it returns
pub record Called {M S : Type 0} (stands : M → S → Type 0) (p : Place) (m : M) (name : List ℕ) (xs : List values.Value) (goes_on : List values.Value → Doing) (ids : List ℕ) (step : model.Step model.Place S) : Type 0 where
  pub env : Env
  pub state : S
  pub agrees : Agrees p.table env
  pub stand : stands m state
  pub is : step ≡ model.Calls name xs goes_on ids (place_of p env) state

pub record Returned {M S : Type 0} (stands : M → S → Type 0) (m : M) (xs : List values.Value) (step : model.Step model.Place S) : Type 0 where
  pub state : S
  pub stand : stands m state
  pub is : step ≡ model.Returns xs state

pub record Stopped {S : Type 0} (e : worlds.Stop) (step : model.Step model.Place S) : Type 0 where
  pub state : S
  pub is : step ≡ model.Stops e state

abbrev pub Stepped : {M S : Type 0} → (M → S → Type 0) → Turn → Place → M → model.Step model.Place S → Type 0
Stepped stands turn.Went p m step = WentOn stands p m step
Stepped stands (turn.Calls f vs packing ids) p m step = Called stands p m f.now.name (values_of vs) (answered (packing_of packing)) ids.now step
Stepped stands (turn.Returns vs) p m step = Returned stands m (values_of vs) step
Stepped stands (turn.Stops e) p m step = Stopped (stop_of e) step
