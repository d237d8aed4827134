-- Functions of which one machine keeps to the other agree: from the entry to the result.
use Rattle.std.proofs.Common.{◌≡◌, ℕ, ◌≤◌, List, [], Option, Some, None, refl, sym, ap, ◌∙◌, subst, append-nil}
use Rattle.std.specs.Prelude.{ℤ}
use Rattle.number_model.specs.Answers.{Answer, Gives, and_then, present, with_answer}
use Rattle.number_model.specs.Answers.{Answer as answer}
use Rattle.operation_model.specs.Values.{Value, numbers}
use Rattle.operation_model.specs.Calling.{unpacked}
use Rattle.form_model.specs.Codes.{Blocks, Function, find_function}
use Rattle.machine_model.specs.Worlds.{More, Undefined, Outside, NoRoom, ExternalCall, IsPrefix, all_signed}
use Rattle.machine_model.specs.Machine.{Spot, Place, Outcome, Finish, Returned, Stopped, begins, at_top, exec}
use Rattle.meaning_model.specs.Buffers.{Heap, no_heap, ask_heap}
use Rattle.meaning_model.specs.Meaning.{Result, End, Done, Stops, Entry, arguments, end_of, entry_at, entry_of, finished, first_world, from_entry, need_of, result_of, results, stepped, structured, with_blocks}
use Rattle.meaning_model.proofs.Runs.{same_forms}
use Rattle.sound_model.specs.Agreement.{AgreeFunctions, KeptBy}
use Rattle.sim_laws.proofs.Simulation as sim

module _ (fs fs' : List Function) (W : Heap → Heap → Type 0) (W_need : (h k : Heap) → W h k → k.need ≤ h.need) (W_first : W no_heap no_heap)
    (R : Place → Heap → Place → Heap → Type 1) (simulates : sim.Simulates ask_heap ask_heap fs fs' W R) where
  -- entries that go together
  record EntriesMatch (e : Entry) (a : Answer Entry) : Type 1 where
    entry : Entry
    is : a ≡ Gives entry
    outputs_are : entry.outputs ≡ e.outputs
    face_is : entry.function.face ≡ e.function.face
    related : R (at_top e.spot) no_heap (at_top entry.spot) no_heap

  abbrev EntryMatch : Answer Entry → Answer Entry → Type 1
  EntryMatch (Gives e) a = EntriesMatch e a
  EntryMatch answer.Undefined a = sim.Up ask_heap ask_heap fs fs' W R (Unit {0})
  EntryMatch answer.Outside a = sim.Up ask_heap ask_heap fs fs' W R (Unit {0})

  module _ (g g' : Function) (face : g.face ≡ g'.face) where
    spot_match : (outputs : List ℕ) (a b : Answer Spot) → sim.BeginMatch ask_heap ask_heap fs fs' W R a b
        → EntryMatch (with_answer (λ s. record { outputs = outputs; function = g; spot = s }) a) (with_answer (λ s. record { outputs = outputs; function = g'; spot = s }) b)
    spot_match outputs (Gives s) b h = record {
      entry = record { outputs = outputs; function = g'; spot = h.spot };
      is = ap (with_answer (λ s. record { outputs = outputs; function = g'; spot = s })) h.is;
      outputs_are = refl;
      face_is = sym face;
      related = h.related no_heap no_heap W_first;
    }
    spot_match outputs answer.Undefined b h = record { down = tt }
    spot_match outputs answer.Outside b h = record { down = tt }

    -- the entry by what the function shows
    abbrev entry_by : Function → List ℤ → Option (List ℕ) → Option (List ℕ) → Answer Entry
    entry_by f args inputs outputs =
        and_then (present inputs) (λ ins. and_then (present outputs) (λ outs.
        and_then (arguments ins args) (λ vs. with_answer (λ s. record { outputs = outs; function = f; spot = s }) (begins f vs))))

    args_match : (outs : List ℕ) (vs : Answer (List Value)) → ((xs : List Value) → sim.BeginMatch ask_heap ask_heap fs fs' W R (begins g xs) (begins g' xs))
        → EntryMatch (and_then vs (λ xs. with_answer (λ s. record { outputs = outs; function = g; spot = s }) (begins g xs))) (and_then vs (λ xs. with_answer (λ s. record { outputs = outs; function = g'; spot = s }) (begins g' xs)))
    args_match outs (Gives xs) h = spot_match outs (begins g xs) (begins g' xs) (h xs)
    args_match outs answer.Undefined h = record { down = tt }
    args_match outs answer.Outside h = record { down = tt }

    widths_match : (args : List ℤ) (inputs outputs : Option (List ℕ)) → ((xs : List Value) → sim.BeginMatch ask_heap ask_heap fs fs' W R (begins g xs) (begins g' xs))
        → EntryMatch (entry_by g args inputs outputs) (entry_by g' args inputs outputs)
    widths_match args None outputs h = record { down = tt }
    widths_match args (Some ins) None h = record { down = tt }
    widths_match args (Some ins) (Some outs) h = args_match outs (arguments ins args) h

    entry_match : (args : List ℤ) → ((xs : List Value) → sim.BeginMatch ask_heap ask_heap fs fs' W R (begins g xs) (begins g' xs)) → EntryMatch (entry_at g args) (entry_at g' args)
    entry_match args h = subst (λ x. EntryMatch (entry_at g args) (entry_by g' args x.inputs x.outputs)) face (widths_match args g.face.inputs g.face.outputs h)

    blocks_match : (args : List ℤ) (b b' : Blocks) → sim.BodyMatch ask_heap ask_heap fs fs' W R g g' b b' → EntryMatch (and_then (with_blocks b g) (λ f. entry_at f args)) (and_then (with_blocks b' g') (λ f. entry_at f args))
    blocks_match args _ _ sim.both_external = record { down = tt }
    blocks_match args _ _ (sim.both_inner h) = entry_match args h

  found_match : (args : List ℤ) (o o' : Option Function) → sim.FindMatch ask_heap ask_heap fs fs' W R o o'
      → EntryMatch (and_then (present o) (λ f. and_then (with_blocks f.body f) (λ g. entry_at g args))) (and_then (present o') (λ f. and_then (with_blocks f.body f) (λ g. entry_at g args)))
  found_match args None o' h = record { down = tt }
  found_match args (Some g) o' h =
      subst (λ x. EntryMatch (and_then (with_blocks g.body g) (λ f. entry_at f args)) (and_then (present x) (λ f. and_then (with_blocks f.body f) (λ k. entry_at k args)))) (sym h.is)
      (blocks_match g h.found h.match.face args g.body h.found.body h.match.bodies)

  -- Results

  same_prefix : (xs : List ExternalCall) → IsPrefix xs xs
  same_prefix xs = record { rest = []; is = sym (append-nil xs) }

  ends_match : (e e' : Entry) (finish : Finish) (m : Heap) (answers : List ℤ) (trace : List ExternalCall) (run : ℕ → Outcome Heap) → e'.outputs ≡ e.outputs → e'.function.face ≡ e.function.face
      → sim.AgreedAt ask_heap ask_heap fs fs' W R finish m answers trace run
      → KeptBy (λ n. result_of e' (run n)) (result_of e (record { finish = finish; world = record { memory = m; answers = answers; trace = trace } })) (finished e finish)
  ends_match e e' (Returned xs) m answers trace run outs face h = go (results e xs) refl
    where
      same_results : results e' xs ≡ results e xs
      same_results =
          ap (λ x. and_then (unpacked x.packing xs) (λ ys. with_answer (all_signed e'.outputs) (numbers ys))) face
          ∙ ap (λ x. and_then (unpacked e.function.face.packing xs) (λ ys. with_answer (all_signed x) (numbers ys))) outs

      go : (a : Answer (List ℤ)) → results e xs ≡ a → KeptBy (λ n. result_of e' (run n)) (result_of e (record { finish = Returned xs; world = record { memory = m; answers = answers; trace = trace } })) (end_of a)
      go (Gives zs) is = (
        h.fuel,
        ap (λ o. finished e' o.finish) h.is ∙ ap end_of (same_results ∙ is),
        ap (λ (o : Outcome Heap). o.world.trace) h.is,
        subst (λ (o : Outcome Heap). o.world.memory.need ≤ m.need) (sym h.is) (W_need m h.memory h.worlds),
      )
      go answer.Undefined is = tt
      go answer.Outside is = tt
  ends_match e e' (Stopped More) m answers trace run outs face h = (
    h.fuel,
    ap (λ o. finished e' o.finish) h.is,
    subst (λ (o : Outcome Heap). IsPrefix trace o.world.trace) (sym h.is) (same_prefix trace),
    subst (λ (o : Outcome Heap). o.world.memory.need ≤ m.need) (sym h.is) (W_need m h.memory h.worlds),
  )
  ends_match e e' (Stopped Undefined) m answers trace run outs face h = tt
  ends_match e e' (Stopped Outside) m answers trace run outs face h = tt
  ends_match e e' (Stopped NoRoom) m answers trace run outs face h = tt

  runs_match : (a b : Answer Entry) → EntryMatch a b → (answers : List ℤ) (n : ℕ)
      → KeptBy (λ j. from_entry b no_heap (λ e. result_of e (exec ask_heap fs' j (at_top e.spot) [] (first_world no_heap answers))))
      (from_entry a no_heap (λ e. result_of e (exec ask_heap fs n (at_top e.spot) [] (first_world no_heap answers))))
      (from_entry a no_heap (λ e. result_of e (exec ask_heap fs n (at_top e.spot) [] (first_world no_heap answers)))).end
  runs_match (Gives e) b h answers n =
      subst (λ x. KeptBy (λ j. from_entry x no_heap (λ y. result_of y (exec ask_heap fs' j (at_top y.spot) [] (first_world no_heap answers))))
      (result_of e (exec ask_heap fs n (at_top e.spot) [] (first_world no_heap answers))) (result_of e (exec ask_heap fs n (at_top e.spot) [] (first_world no_heap answers))).end) (sym h.is)
      (let o = exec ask_heap fs n (at_top e.spot) [] (first_world no_heap answers) in
      ends_match e h.entry o.finish o.world.memory o.world.answers o.world.trace (λ j. exec ask_heap fs' j (at_top h.entry.spot) [] (first_world no_heap answers)) h.outputs_are h.face_is
      (sim.run_matched ask_heap ask_heap fs fs' W R simulates n (at_top e.spot) (at_top h.entry.spot) no_heap no_heap [] [] answers [] h.related sim.ended_stack).down)
  runs_match answer.Undefined b h answers n = tt
  runs_match answer.Outside b h answers n = tt

  -- The functions agree.
  pub agree : AgreeFunctions fs fs'
  agree name args answers n small =
      subst (λ r. KeptBy (λ j. structured fs' name args answers j) r r.end) (sym (same_forms fs name args answers n))
      (by_forms (λ j. structured fs' name args answers j) (λ j. stepped ask_heap no_heap fs' name args answers j) (λ j. same_forms fs' name args answers j) (stepped ask_heap no_heap fs name args answers n)
      (stepped ask_heap no_heap fs name args answers n).end
      (runs_match (entry_of fs name args) (entry_of fs' name args) (found_match args (find_function name fs) (find_function name fs') (simulates.functions name)) answers n))
    where
      by_forms : (run other : ℕ → Result Heap) → ((j : ℕ) → run j ≡ other j) → (r : Result Heap) (e : End) → KeptBy other r e → KeptBy run r e
      by_forms run other same r (Done zs) h =
          (h.0, ap (λ (x : Result Heap). x.end) (same h.0) ∙ h.1, ap (λ (x : Result Heap). x.trace) (same h.0) ∙ h.2, subst (λ x. need_of x ≤ need_of r) (sym (same h.0)) h.3)
      by_forms run other same r (Stops More) h =
          (h.0, ap (λ (x : Result Heap). x.end) (same h.0) ∙ h.1, subst (λ (x : Result Heap). IsPrefix r.trace x.trace) (sym (same h.0)) h.2, subst (λ x. need_of x ≤ need_of r) (sym (same h.0)) h.3)
      by_forms run other same r (Stops Undefined) h = tt
      by_forms run other same r (Stops Outside) h = tt
      by_forms run other same r (Stops NoRoom) h = tt
