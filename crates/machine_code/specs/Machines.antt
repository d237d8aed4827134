-- Which runs of the definition a machine of the code stands for.
use Rattle.std.specs.Prelude.{◌≡◌, ℕ, ◌==◌, Bool, List, [], ◌∷◌, ◌++◌, map, length, Option, Some, None, if◌then◌else◌}
use Rattle.number_model.specs.Answers.{Answer, Gives, present, and_then}
use Rattle.number_model.specs.Answers.{Answer as answer}
use Rattle.operation_model.specs.Values as values
use Rattle.operation_model.specs.Calling as calling
use Rattle.operation_model.specs.Doings.{Question}
use Rattle.form_model.specs.Codes.{Blocks, Function, Env, entry, bind, find_function}
use Rattle.machine_model.specs.Worlds.{World, Reply, Outside}
use Rattle.machine_model.specs.Worlds as worlds
use Rattle.machine_model.specs.Machine as model
use Rattle.run_code.specs.Views.{packing_of}
use Rattle.value_code.specs.Models.{values_of}
use Rattle.table_code.specs.Agreement.{Agrees}
use Rattle.doing_code.specs.Doings.{answered}
use Rattle.frame_code.specs.declared.frame.Place.{Place}
use Rattle.frame_code.specs.declared.frame.Moving.{Moving}
use Rattle.frame_code.specs.declared.frame.Moving.TheVariants as moving
use Rattle.frame_code.specs.Frames.{Move, goes_to, frames_of, place_of}
use Rattle.run_code.specs.Views.{ops_of, blocks_of}
use Rattle.step_code.specs.declared.turns.Stop.TheVariants as stop
use Rattle.step_code.specs.Turns.{stop_of}
use Rattle.machine_code.specs.declared.kinds.ExternalCall.{ExternalCall}
use Rattle.machine_code.specs.declared.kinds.Caller.{Caller}
use Rattle.machine_code.specs.declared.kinds.Machine.{Machine}
use Rattle.machine_code.specs.declared.kinds.Finish.{Finish}
use Rattle.machine_code.specs.declared.kinds.Finish.TheVariants as finish

abbrev pub call_seen : ExternalCall → worlds.ExternalCall
call_seen c = record { name = c.name; args = c.args; answers = c.answers }

-- the calls of external functions so far
abbrev pub trace_of : Machine → List worlds.ExternalCall
trace_of a = map call_seen a.trace

abbrev pub finish_of : Finish → model.Finish
finish_of (finish.Returned vs) = model.Returned (values_of vs)
finish_of (finish.Stopped e) = model.Stopped (stop_of e)

-- how a run ends where the place has not moved on
abbrev pub finish_if : Moving → Option Finish
finish_if moving.Went = None
finish_if moving.Undefined = Some (finish.Stopped stop.Undefined)
finish_if moving.Outside = Some (finish.Stopped stop.Outside)

-- a call under way
pub record IsCaller (c : Caller) (of : model.Caller) : Type 0 where
  pub env : Env
  pub agrees : Agrees c.place.table env
  pub is : of ≡ record { goes_on = answered (packing_of c.packing); results = c.results.now; place = place_of c.place env }

abbrev pub AreCallers : List Caller → List model.Caller → Type 0
AreCallers [] [] = Unit {0}
AreCallers (c ∷ cs) (m ∷ ms) = IsCaller c m × AreCallers cs ms
AreCallers _ _ = ⊥

-- a machine and a memory stand for a run at this place, with these calls under way, in this world
pub record Runs {M S : Type 0} (stands : M → S → Type 0) (a : Machine) (m : M) (p : model.Place) (cs : List model.Caller) (w : World S) : Type 0 where
  pub env : Env
  pub agrees : Agrees a.place.table env
  pub place : p ≡ place_of a.place env
  pub callers : AreCallers a.callers.items cs
  pub memory : stands m w.memory
  pub answers : w.answers ≡ a.answers.now
  pub trace : w.trace ≡ trace_of a

-- the same of all but the place
pub record Waits {M S : Type 0} (stands : M → S → Type 0) (a : Machine) (m : M) (cs : List model.Caller) (w : World S) : Type 0 where
  pub callers : AreCallers a.callers.items cs
  pub memory : stands m w.memory
  pub answers : w.answers ≡ a.answers.now
  pub trace : w.trace ≡ trace_of a

-- the run is over
pub record Over {S : Type 0} (f : Finish) (a : Machine) (out : model.Outcome S) : Type 0 where
  pub finish : out.finish ≡ finish_of f
  pub trace : out.world.trace ≡ trace_of a

-- the run goes on
pub record Onward {M S : Type 0} (stands : M → S → Type 0) (a : Machine) (m : M) (next : model.Next S) (out : model.Outcome S) : Type 0 where
  pub place : model.Place
  pub callers : List model.Caller
  pub world : World S
  pub runs : Runs stands a m place callers world
  pub is : out ≡ next place callers world

abbrev pub Advances : {M S : Type 0} → (M → S → Type 0) → Option Finish → Machine → M → model.Next S → model.Outcome S → Type 0
Advances stands None a m next out = Onward stands a m next out
Advances stands (Some f) a m next out = Over f a out

-- Where a function begins

-- the spot at the first block, with these arguments
abbrev pub entered : Blocks → List values.Value → Answer model.Spot
entered blocks args =
    and_then (present (entry blocks)) (λ t. and_then (present (bind t.args args [])) (λ env. Gives (record { ops = t.ops; blocks = blocks; env = env })))

pub record IsBegun (p : Place) (a : Answer model.Spot) : Type 0 where
  pub env : Env
  pub spot : model.Spot
  pub agrees : Agrees p.table env
  pub is : a ≡ Gives spot
  pub place : model.at_top spot ≡ place_of p env

abbrev pub Begun : Option Place → Answer model.Spot → Type 0
Begun (Some p) a = IsBegun p a
Begun None a = a ≡ answer.Outside

-- Calls

-- behind a call, with what was returned
abbrev pub comes_back : calling.Packing → List ℕ → List values.Value → Place → Env → Move
comes_back packing ids xs p env =
    model.stepping (calling.unpacked packing xs) tt (λ ys. goes_to ids ys env (ops_of p.ops.now) (blocks_of p.blocks.now) (frames_of p))

-- a call under way from this place
abbrev pub caller_at : calling.Packing → List ℕ → model.Place → model.Caller
caller_at packing ids p = record { goes_on = answered packing; results = ids; place = p }

-- what an external function of these widths is told, and what it returns
pub record Tells (old new : Machine) (vs : List values.Value) (f : Function) (inputs outputs ns : List ℕ) : Type 0 where
  pub values : vs ≡ calling.packed f.face.packing (map values.Integer (worlds.answered outputs old.answers.now))
  pub answers : worlds.unanswered outputs old.answers.now ≡ new.answers.now
  pub trace : trace_of new ≡ trace_of old ++ record { name = f.name; args = worlds.all_signed inputs ns; answers = worlds.all_signed outputs (worlds.answered outputs old.answers.now) } ∷ []
  pub place : new.place ≡ old.place
  pub callers : new.callers ≡ old.callers

abbrev pub replied : {S : Type 0} → (Question → S → Reply S) → model.Next S → Function → List ℕ → List ℕ → List ℕ → calling.Packing → List ℕ → model.Place → List model.Caller → World S → model.Outcome S
replied ask next f inputs outputs ns packing ids p cs w =
    let told = model.tells f inputs outputs ns w in
    model.resumes ask next (answered packing told.values) ids p cs told.world

abbrev pub calls_widths : {S : Type 0} → (Question → S → Reply S) → model.Next S → Function → List ℕ → List ℕ → List values.Value → calling.Packing → List ℕ → model.Place → List model.Caller → World S → model.Outcome S
calls_widths ask next f inputs outputs xs packing ids p cs w =
    model.ending (if length xs == length inputs then and_then (values.numbers xs) (λ ns. Gives (model.tells f inputs outputs ns w)) else answer.Outside) w
    (λ told. model.resumes ask next (answered packing told.values) ids p cs told.world)

abbrev pub calls_outside : {S : Type 0} → (Question → S → Reply S) → model.Next S → Function → List values.Value → calling.Packing → List ℕ → model.Place → List model.Caller → World S → model.Outcome S
calls_outside ask next f xs packing ids p cs w =
    model.ending (model.external f xs w) w (λ told. model.resumes ask next (answered packing told.values) ids p cs told.world)

abbrev pub calls_inside : {S : Type 0} → model.Next S → Function → List values.Value → calling.Packing → List ℕ → model.Place → List model.Caller → World S → model.Outcome S
calls_inside next f xs packing ids p cs w = model.ending (model.begins f xs) w (λ s. next (model.at_top s) (caller_at packing ids p ∷ cs) w)

abbrev pub calls_one : {S : Type 0} → (Question → S → Reply S) → model.Next S → Function → List values.Value → calling.Packing → List ℕ → model.Place → List model.Caller → World S → model.Outcome S
calls_one ask next f xs packing ids p cs w = model.calls_body ask next f.body f xs (caller_at packing ids p) cs w

abbrev pub calls_named : {S : Type 0} → (Question → S → Reply S) → List Function → model.Next S → List ℕ → List values.Value → calling.Packing → List ℕ → model.Place → List model.Caller → World S → model.Outcome S
calls_named ask fs next name xs packing ids p cs w =
    model.ending (present (find_function name fs)) w (λ g. calls_one ask next g xs packing ids p cs w)
