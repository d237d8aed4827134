-- Which result of the definition an outcome of the code shows, and the parts of an entry and an end.
use Rattle.std.specs.Prelude.{◌≡◌, ℕ, List, [], ℤ, Option, Some, None, map}
use Rattle.number_model.specs.Answers.{Answer, Gives, and_then, with_answer}
use Rattle.number_model.specs.Answers.{Answer as answer}
use Rattle.operation_model.specs.Values as values
use Rattle.operation_model.specs.Calling as calling
use Rattle.operation_model.specs.Doings.{Question}
use Rattle.form_model.specs.Codes.{Env, Function}
use Rattle.machine_model.specs.Worlds.{Reply, all_signed}
use Rattle.machine_model.specs.Worlds.{Stop as stop}
use Rattle.machine_model.specs.Machine.{Finish, Returned, Stopped, at_top, begins, exec}
use Rattle.meaning_model.specs.Meaning as model
use Rattle.run_code.specs.Views.{bits_of, packing_of}
use Rattle.table_code.specs.Agreement.{Agrees}
use Rattle.frame_code.specs.Frames.{place_of}
use Rattle.machine_code.specs.Machines.{call_seen}
use Rattle.outcome_code.specs.declared.kinds.End.{End}
use Rattle.outcome_code.specs.declared.kinds.End.TheVariants as code
use Rattle.outcome_code.specs.declared.kinds.Entry.{Entry}
use Rattle.outcome_code.specs.declared.kinds.Outcome.{Outcome}

abbrev pub end_of : End → model.End
end_of (code.Done zs) = model.Done zs
end_of code.More = model.Stops stop.More
end_of code.Undefined = model.Stops stop.Undefined
end_of code.Outside = model.Stops stop.Outside
end_of code.NoRoom = model.Stops stop.NoRoom

-- the same end and the same calls of external functions
pub record Shows {S : Type 0} (o : Outcome) (r : model.Result S) : Type 0 where
  pub end : end_of o.end ≡ r.end
  pub trace : map call_seen o.trace ≡ r.trace

-- Entries

abbrev pub enters_with : Function → List ℕ → List values.Value → Answer model.Entry
enters_with f outputs xs = with_answer (λ s. record { outputs = outputs; function = f; spot = s }) (begins f xs)

abbrev pub enters_between : Function → List ℕ → List ℕ → List ℤ → Answer model.Entry
enters_between f inputs outputs args = and_then (model.arguments inputs args) (enters_with f outputs)

abbrev pub enters_one : Function → List ℤ → Answer model.Entry
enters_one f args = and_then (model.with_blocks f.body f) (λ g. model.entry_at g args)

-- an entry of the code stands for one of the definition
pub record Entered (e : Entry) (of : model.Entry) : Type 0 where
  pub env : Env
  pub agrees : Agrees e.place.table env
  pub place : at_top of.spot ≡ place_of e.place env
  pub outputs : of.outputs ≡ bits_of e.outputs.now
  pub packing : of.function.face.packing ≡ packing_of e.packing

pub record IsEntry (e : Entry) (a : Answer model.Entry) : Type 0 where
  pub of : model.Entry
  pub is : a ≡ Gives of
  pub entered : Entered e of

abbrev pub Enters : Option Entry → Answer model.Entry → Type 0
Enters (Some e) a = IsEntry e a
Enters None a = a ≡ answer.Outside

-- a run from an entry
abbrev pub result_at : {S : Type 0} → (Question → S → Reply S) → S → List Function → List ℤ → ℕ → model.Entry → model.Result S
result_at ask s fs answers fuel e = model.result_of e (exec ask fs fuel (at_top e.spot) [] (model.first_world s answers))

-- Ends

abbrev pub numbers_end : List ℕ → List values.Value → model.End
numbers_end outputs xs = model.end_of (with_answer (all_signed outputs) (values.numbers xs))

abbrev pub results_end : List ℕ → calling.Packing → List values.Value → model.End
results_end outputs packing vs = model.end_of (and_then (calling.unpacked packing vs) (λ xs. with_answer (all_signed outputs) (values.numbers xs)))

abbrev pub finished_with : List ℕ → calling.Packing → Finish → model.End
finished_with outputs packing (Returned vs) = results_end outputs packing vs
finished_with outputs packing (Stopped e) = model.Stops e
