-- Runs behind calls, and into functions.
use Rattle.std.proofs.Common.{◌≡◌, ℕ, List, [], ◌∷◌, ◌++◌, Bool, true, false, Option, Some, None, map, length, take, drop, get_or, zero, suc, ◌+◌, ◌-◌, ◌<◌, ◌≤◌, ℤ, arith, append_assoc, refl, sym, ap, ap₂, subst, ◌∙◌}
use Rattle.std.proofs.lemmas.List.{map-append}
use Rattle.number_model.specs.Answers.{Answer, Gives, present, and_then}
use Rattle.number_model.specs.Answers.{Answer as answer}
use Rattle.operation_model.specs.Values as values
use Rattle.operation_model.specs.Calling as calling
use Rattle.operation_model.specs.Doings.{Question, on, Ends}
use Rattle.form_model.specs.Codes.{Ops, Blocks, Function, Env, Target, entry, bind}
use Rattle.machine_model.specs.Worlds.{World, Reply, unanswered}
use Rattle.machine_model.specs.Worlds as worlds
use Rattle.machine_model.specs.Worlds.{Stop as stop}
use Rattle.machine_model.specs.Machine as model
use Rattle.table_code.specs.Agreement.{Agrees, Binds}
use Rattle.doing_code.specs.Doings.{answered}
use Rattle.run_code.specs.Views.{ops_of, blocks_of, bits_of, function_of, packing_of}
use Rattle.run_code.specs.declared.width.Width.{Width}
use Rattle.run_code.specs.declared.function.Block.{Block}
use Rattle.run_code.specs.declared.function.Function as code
use Rattle.run_code.proofs.Shapes.{block_is}
use Rattle.value_code.specs.declared.value.Value.{Value}
use Rattle.value_code.specs.declared.value.Value as value
use Rattle.value_code.specs.Models.{value_of, values_of}
use Rattle.value_code.proofs.Shapes.{value_of-Integer}
use Rattle.table_code.proofs.TableLaws.{drop_at, drop_whole, get_is}
use Rattle.frame_code.specs.declared.frame.Place.{Place}
use Rattle.frame_code.specs.declared.frame.Moving.{Moving}
use Rattle.frame_code.specs.declared.frame.Moving.TheVariants as moving
use Rattle.frame_code.specs.Frames.{Move, Moved, Went, frames_of, goes_to, place_of}
use Rattle.step_code.specs.Turns.{WentOn, Called, Returned, Stopped, stop_of, at_state, ends, performed}
use Rattle.step_code.specs.declared.turns.Stop.{Stop}
use Rattle.step_code.specs.declared.turns.Stop.TheVariants as code_stop
use Rattle.step_code.proofs.TurnLaws.{does_end}
use Rattle.machine_code.specs.declared.kinds.Caller.{Caller}
use Rattle.machine_code.specs.declared.kinds.Machine.{Machine}
use Rattle.machine_code.specs.declared.kinds.Finish.{Finish}
use Rattle.machine_code.specs.declared.kinds.Finish.TheVariants as finish
use Rattle.machine_code.specs.declared.kinds.ExternalCall.{ExternalCall}
use Rattle.machine_code.specs.Machines.{Waits, Tells, calls_outside, calls_one, calls_named, replied, call_seen, trace_of, AreCallers, IsCaller, Runs, Over, Onward, Advances, IsBegun, Begun, finish_if, comes_back, caller_at, calls_inside, entered}

abbrev behind_at : List ℕ → Place → model.Behind
behind_at ids p = record { results = ids; rest = ops_of p.ops.now; blocks = blocks_of p.blocks.now }

comes_on : {S : Type 0} (ask : Question → S → Reply S) (a : Answer (List values.Value)) (ids : List ℕ) (p : Place) (env : Env) (s : S)
    → performed ask (on a Ends) (behind_at ids p) env (frames_of p) s ≡ at_state s (model.stepping a tt (λ ys. goes_to ids ys env (ops_of p.ops.now) (blocks_of p.blocks.now) (frames_of p)))
comes_on ask (Gives ys) ids p env s = does_end ask ys (behind_at ids p) env (frames_of p) s
comes_on ask answer.Undefined ids p env s = refl
comes_on ask answer.Outside ids p env s = refl

-- a run behind a call is the move of the place
resumes_is : {S : Type 0} (ask : Question → S → Reply S) (next : model.Next S) (packing : calling.Packing) (xs : List values.Value) (ids : List ℕ) (a : Place) (env : Env) (p : model.Place) (cs : List model.Caller) (w : World S)
    → p ≡ place_of a env → model.resumes ask next (answered packing xs) ids p cs w ≡ model.settles next (at_state w.memory (comes_back packing ids xs a env)) cs w
resumes_is ask next packing xs ids a env p cs w e =
    ap (λ q. model.resumes ask next (answered packing xs) ids q cs w) e ∙ ap (λ u. model.settles next u cs w) (comes_on ask (calling.unpacked packing xs) ids a env w.memory)

settled : {M S : Type 0} (stands : M → S → Type 0) (next : model.Next S) (mv : Moving) (pl : Place) (u : Move) (a : Machine) (m : M) (cs : List model.Caller) (w : World S) (out : model.Outcome S)
    → Moved mv pl u → AreCallers a.callers.items cs → stands m w.memory → w.answers ≡ a.answers.now → w.trace ≡ trace_of a → out ≡ model.settles next (at_state w.memory u) cs w
    → Advances stands (finish_if mv) (record a { place = pl }) m next out
settled stands next moving.Went pl u a m cs w out h callers memory answers trace is = record {
  place = place_of pl h.env;
  callers = cs;
  world = w;
  runs = record { env = h.env; agrees = h.agrees; place = refl; callers = callers; memory = memory; answers = answers; trace = trace };
  is = is ∙ ap (λ v. model.settles next (at_state w.memory v) cs w) h.is;
}
settled stands next moving.Undefined pl u a m cs w out h callers memory answers trace is = record {
  finish = ap (λ o. o.finish) (is ∙ ap (λ v. model.settles next (at_state w.memory v) cs w) h);
  trace = ap (λ o. o.world.trace) (is ∙ ap (λ v. model.settles next (at_state w.memory v) cs w) h) ∙ trace;
}
settled stands next moving.Outside pl u a m cs w out h callers memory answers trace is = record {
  finish = ap (λ o. o.finish) (is ∙ ap (λ v. model.settles next (at_state w.memory v) cs w) h);
  trace = ap (λ o. o.world.trace) (is ∙ ap (λ v. model.settles next (at_state w.memory v) cs w) h) ∙ trace;
}

pub resumed : {M S : Type 0} (stands : M → S → Type 0) (ask : Question → S → Reply S) (next : model.Next S) (mv : Moving) (pl : Place) (packing : calling.Packing) (ids : List ℕ) (xs : List values.Value)
    (a : Machine) (m : M) (p : model.Place) (cs : List model.Caller) (w : World S)
    → ((env : Env) → Agrees a.place.table env → Moved mv pl (comes_back packing ids xs a.place env)) → Runs stands a m p cs w
    → Advances stands (finish_if mv) (record a { place = pl }) m next (model.resumes ask next (answered packing xs) ids p cs w)
resumed stands ask next mv pl packing ids xs a m p cs w h r =
    settled stands next mv pl (comes_back packing ids xs a.place r.env) a m cs w (model.resumes ask next (answered packing xs) ids p cs w) (h r.env r.agrees) r.callers r.memory r.answers r.trace
    (resumes_is ask next packing xs ids a.place r.env p cs w r.place)

-- what a function returns goes to the newest call

pub gave_back : {M S : Type 0} (stands : M → S → Type 0) (ask : Question → S → Reply S) (next : model.Next S) (o : Option Finish) (new : Machine) (xs : List values.Value) (c : Caller) (rest : List Caller) (m : M) (cs : List model.Caller) (w : World S)
    → AreCallers (c ∷ rest) cs
    → ((p1 : model.Place) (cs1 : List model.Caller) → (env : Env) → Agrees c.place.table env → p1 ≡ place_of c.place env → AreCallers rest cs1 → Advances stands o new m next (model.resumes ask next (answered (packing_of c.packing) xs) c.results.now p1 cs1 w))
    → Advances stands o new m next (model.gives_back ask next xs cs w)
gave_back stands ask next o new xs c rest m [] w are h = absurd are
gave_back stands ask next o new xs c rest m (k ∷ cs) w are h =
    subst (Advances stands o new m next) (ap (λ y. model.resumes ask next (y.goes_on xs) y.results y.place cs w) (sym (are.0).is)) (h (place_of c.place (are.0).env) cs (are.0).env (are.0).agrees refl are.1)

-- into a function

abbrev pub spot_at : Ops → Blocks → Env → Answer model.Spot
spot_at ops blocks env = Gives (record { ops = ops; blocks = blocks; env = env })

abbrev pub top_at : Ops → Blocks → Env → List model.Frame → model.Place
top_at ops blocks env frames = record { spot = record { ops = ops; blocks = blocks; env = env }; frames = frames }

pub entered_there : (blocks : Blocks) (t : Target) (args : List values.Value) (env : Env) → entry blocks ≡ Some t → bind t.args args [] ≡ Some env
    → entered blocks args ≡ Gives (record { ops = t.ops; blocks = blocks; env = env })
entered_there blocks t args env e b =
    ap (λ o. and_then (present o) (λ u. and_then (present (bind u.args args [])) (λ i. Gives (record { ops = u.ops; blocks = blocks; env = i })))) e
    ∙ ap (λ o. and_then (present o) (λ i. Gives (record { ops = t.ops; blocks = blocks; env = i }))) b

pub entered_not : (blocks : Blocks) (t : Target) (args : List values.Value) → entry blocks ≡ Some t → bind t.args args [] ≡ None → entered blocks args ≡ answer.Outside
entered_not blocks t args e b =
    ap (λ o. and_then (present o) (λ u. and_then (present (bind u.args args [])) (λ i. Gives (record { ops = u.ops; blocks = blocks; env = i })))) e
    ∙ ap (λ o. and_then (present o) (λ i. Gives (record { ops = t.ops; blocks = blocks; env = i }))) b

pub went_in : {M S : Type 0} (stands : M → S → Type 0) (next : model.Next S) (new : Machine) (m : M) (place : Place) (f : Function) (xs : List values.Value) (packing : calling.Packing) (ids : List ℕ) (p : model.Place) (cs : List model.Caller) (w : World S)
    → IsBegun place (model.begins f xs) → ((env : Env) → Agrees place.table env → Runs stands new m (place_of place env) (caller_at packing ids p ∷ cs) w)
    → Onward stands new m next (calls_inside next f xs packing ids p cs w)
went_in stands next new m place f xs packing ids p cs w b h = record {
  place = place_of place b.env;
  callers = caller_at packing ids p ∷ cs;
  world = w;
  runs = h b.env b.agrees;
  is = ap (λ a. model.ending a w (λ s. next (model.at_top s) (caller_at packing ids p ∷ cs) w)) b.is ∙ ap (λ q. next q (caller_at packing ids p ∷ cs) w) b.place;
}

-- numbers as integers

nil_behind : {A : Type 0} (xs : List A) → xs ++ [] ≡ xs
nil_behind [] = refl
nil_behind (x ∷ xs) = ap (λ l. x ∷ l) (nil_behind xs)

pub integers_more : (all new : List Value) (ns : List ℕ) (i : ℕ) → values_of all ++ map values.Integer (drop i ns) ≡ map values.Integer ns → i < length ns → new ≡ all ++ value.Integer (get_or ns i 0) ∷ []
    → values_of new ++ map values.Integer (drop (i + 1) ns) ≡ map values.Integer ns
integers_more all new ns i so lt e =
    ap (λ l. values_of l ++ map values.Integer (drop (i + 1) ns)) e
    ∙ ap (λ l. l ++ map values.Integer (drop (i + 1) ns)) (map-append value_of all (value.Integer (get_or ns i 0) ∷ []) ∙ ap (λ v. values_of all ++ v ∷ []) (value_of-Integer (get_or ns i 0)))
    ∙ append_assoc (values_of all) (values.Integer (get_or ns i 0) ∷ []) (map values.Integer (drop (i + 1) ns))
    ∙ sym (ap (λ l. values_of all ++ map values.Integer l) (drop_at ns i (get_or ns i 0) (get_is ns i 0 lt)))
    ∙ so

pub integers_all : (all : List Value) (ns : List ℕ) (i : ℕ) → values_of all ++ map values.Integer (drop i ns) ≡ map values.Integer ns → length ns ≤ i → values_of all ≡ map values.Integer ns
integers_all all ns i so past = sym (nil_behind (values_of all)) ∙ sym (ap (λ l. values_of all ++ map values.Integer l) (drop_whole ns i past)) ∙ so

-- what an external function is told

pub unanswered_is : (ws : List Width) (zs : List ℤ) → unanswered (bits_of ws) zs ≡ drop (length ws) zs
unanswered_is [] zs = refl
unanswered_is (w ∷ ws) [] = refl
unanswered_is (w ∷ ws) (z ∷ zs) = unanswered_is ws zs

abbrev pub call_with : List ℕ → List ℕ → List ℕ → List ℕ → List ℕ → worlds.ExternalCall
call_with name inputs ns outputs replies = record { name = name; args = worlds.all_signed inputs ns; answers = worlds.all_signed outputs replies }

pub trace_more : (old new : List ExternalCall) (c : ExternalCall) (seen : worlds.ExternalCall) → new ≡ old ++ c ∷ [] → call_seen c ≡ seen → map call_seen new ≡ map call_seen old ++ seen ∷ []
trace_more old new c seen e is = ap (map call_seen) e ∙ map-append call_seen old (c ∷ []) ∙ ap (λ x. map call_seen old ++ x ∷ []) is

told_runs : {M S : Type 0} (stands : M → S → Type 0) (old mid : Machine) (m : M) (vs : List values.Value) (f : Function) (inputs outputs ns : List ℕ) (p : model.Place) (cs : List model.Caller) (w : World S)
    → Runs stands old m p cs w → Tells old mid vs f inputs outputs ns → Runs stands mid m p cs (model.tells f inputs outputs ns w).world
told_runs stands old mid m vs f inputs outputs ns p cs w r t = record {
  env = r.env;
  agrees = subst (λ q. Agrees q.table r.env) (sym t.place) r.agrees;
  place = r.place ∙ ap (λ q. place_of q r.env) (sym t.place);
  callers = subst (λ q. AreCallers q.items cs) (sym t.callers) r.callers;
  memory = r.memory;
  answers = ap (unanswered outputs) r.answers ∙ t.answers;
  trace =
      ap₂ (λ l zs. l ++ record { name = f.name; args = worlds.all_signed inputs ns; answers = worlds.all_signed outputs (worlds.answered outputs zs) } ∷ []) r.trace r.answers
      ∙ sym t.trace;
}

pub replied_by : {M S : Type 0} (stands : M → S → Type 0) (ask : Question → S → Reply S) (next : model.Next S) (o : Option Finish) (old mid new : Machine) (m : M) (vs : List values.Value) (f : Function) (inputs outputs ns : List ℕ)
    (packing : calling.Packing) (ids : List ℕ) (p : model.Place) (cs : List model.Caller) (w : World S)
    → Runs stands old m p cs w → Tells old mid vs f inputs outputs ns
    → ((w1 : World S) → Runs stands mid m p cs w1 → Advances stands o new m next (model.resumes ask next (answered packing vs) ids p cs w1))
    → Advances stands o new m next (replied ask next f inputs outputs ns packing ids p cs w)
replied_by stands ask next o old mid new m vs f inputs outputs ns packing ids p cs w r t h =
    subst (λ v. Advances stands o new m next (model.resumes ask next (answered packing v) ids p cs (model.tells f inputs outputs ns w).world))
    (t.values ∙ ap (λ zs. calling.packed f.face.packing (map values.Integer (worlds.answered outputs zs))) (sym r.answers))
    (h (model.tells f inputs outputs ns w).world (told_runs stands old mid m vs f inputs outputs ns p cs w r t))

-- which call it is

pub one_outside : {S : Type 0} (ask : Question → S → Reply S) (next : model.Next S) (f : code.Function) (xs : List values.Value) (packing : calling.Packing) (ids : List ℕ) (p : model.Place) (cs : List model.Caller) (w : World S)
    → f.blocks ≡ [] → calls_outside ask next (function_of f) xs packing ids p cs w ≡ calls_one ask next (function_of f) xs packing ids p cs w
one_outside ask next f xs packing ids p cs w e = sym (ap (λ bs. model.calls_body ask next (blocks_of bs) (function_of f) xs (caller_at packing ids p) cs w) e)

inside_body : {S : Type 0} (ask : Question → S → Reply S) (next : model.Next S) (bs : List Block) (g : Function) (xs : List values.Value) (c : model.Caller) (cs : List model.Caller) (w : World S)
    → (bs ≡ [] → ⊥) → model.ending (model.begins g xs) w (λ s. next (model.at_top s) (c ∷ cs) w) ≡ model.calls_body ask next (blocks_of bs) g xs c cs w
inside_body ask next [] g xs c cs w h = absurd (h refl)
inside_body ask next (b ∷ bs) g xs c cs w h = sym (ap (λ y. model.calls_body ask next y g xs c cs w) (block_is b (blocks_of bs)))

pub one_inside : {S : Type 0} (ask : Question → S → Reply S) (next : model.Next S) (f : code.Function) (xs : List values.Value) (packing : calling.Packing) (ids : List ℕ) (p : model.Place) (cs : List model.Caller) (w : World S)
    → (f.blocks ≡ [] → ⊥) → calls_inside next (function_of f) xs packing ids p cs w ≡ calls_one ask next (function_of f) xs packing ids p cs w
one_inside ask next f xs packing ids p cs w h = inside_body ask next f.blocks (function_of f) xs (caller_at packing ids p) cs w h

-- one step

pub advance_went : {M S : Type 0} (stands : M → S → Type 0) (ask : Question → S → Reply S) (fs : List Function) (next : model.Next S) (a : Machine) (pl : Place) (m0 m : M) (p : model.Place) (cs : List model.Caller) (w : World S)
    → (r : Runs stands a m0 p cs w) → WentOn stands pl m (model.step ask (place_of a.place r.env) w.memory) → Onward stands (record a { place = pl }) m next (model.follows ask fs next (model.step ask p w.memory) cs w)
advance_went stands ask fs next a pl m0 m p cs w r on = record {
  place = place_of pl on.env;
  callers = cs;
  world = model.with_memory w on.state;
  runs = record { env = on.env; agrees = on.agrees; place = refl; callers = r.callers; memory = on.stand; answers = r.answers; trace = r.trace };
  is = ap (λ u. model.follows ask fs next u cs w) (ap (λ q. model.step ask q w.memory) r.place ∙ on.is);
}

pub advance_calls : {M S : Type 0} (stands : M → S → Type 0) (ask : Question → S → Reply S) (fs : List Function) (next : model.Next S) (o : Option Finish) (a new : Machine) (pl : Place) (m0 m : M) (name : List ℕ) (xs : List values.Value) (packing : calling.Packing) (ids : List ℕ)
    (p : model.Place) (cs : List model.Caller) (w : World S)
    → (r : Runs stands a m0 p cs w) → Called stands pl m name xs (answered packing) ids (model.step ask (place_of a.place r.env) w.memory)
    → ((p1 : model.Place) (cs1 : List model.Caller) (w1 : World S) → Runs stands (record a { place = pl }) m p1 cs1 w1 → Advances stands o new m next (calls_named ask fs next name xs packing ids p1 cs1 w1))
    → Advances stands o new m next (model.follows ask fs next (model.step ask p w.memory) cs w)
advance_calls stands ask fs next o a new pl m0 m name xs packing ids p cs w r on h =
    subst (Advances stands o new m next) (sym (ap (λ u. model.follows ask fs next u cs w) (ap (λ q. model.step ask q w.memory) r.place ∙ on.is)))
    (h (place_of pl on.env) cs (model.with_memory w on.state) (record { env = on.env; agrees = on.agrees; place = refl; callers = r.callers; memory = on.stand; answers = r.answers; trace = r.trace }))

pub advance_returns : {M S : Type 0} (stands : M → S → Type 0) (ask : Question → S → Reply S) (fs : List Function) (next : model.Next S) (o : Option Finish) (a new : Machine) (pl : Place) (m0 m : M) (xs : List values.Value)
    (p : model.Place) (cs : List model.Caller) (w : World S)
    → (r : Runs stands a m0 p cs w) → Returned stands m xs (model.step ask (place_of a.place r.env) w.memory)
    → ((cs1 : List model.Caller) (w1 : World S) → Waits stands (record a { place = pl }) m cs1 w1 → Advances stands o new m next (model.gives_back ask next xs cs1 w1))
    → Advances stands o new m next (model.follows ask fs next (model.step ask p w.memory) cs w)
advance_returns stands ask fs next o a new pl m0 m xs p cs w r on h =
    subst (Advances stands o new m next) (sym (ap (λ u. model.follows ask fs next u cs w) (ap (λ q. model.step ask q w.memory) r.place ∙ on.is)))
    (h cs (model.with_memory w on.state) (record { callers = r.callers; memory = on.stand; answers = r.answers; trace = r.trace }))

pub advance_stops : {M S : Type 0} (stands : M → S → Type 0) (ask : Question → S → Reply S) (fs : List Function) (next : model.Next S) (e : Stop) (a : Machine) (pl : Place) (m0 : M) (p : model.Place) (cs : List model.Caller) (w : World S)
    → (r : Runs stands a m0 p cs w) → Stopped (stop_of e) (model.step ask (place_of a.place r.env) w.memory) → Over (finish.Stopped e) (record a { place = pl }) (model.follows ask fs next (model.step ask p w.memory) cs w)
advance_stops stands ask fs next e a pl m0 p cs w r on = record {
  finish = ap (λ u. (model.follows ask fs next u cs w).finish) (ap (λ q. model.step ask q w.memory) r.place ∙ on.is);
  trace = ap (λ u. (model.follows ask fs next u cs w).world.trace) (ap (λ q. model.step ask q w.memory) r.place ∙ on.is) ∙ r.trace;
}

-- step by step

pub exec_is : {S : Type 0} (ask : Question → S → Reply S) (fs : List Function) (fuel i : ℕ) (p : model.Place) (cs : List model.Caller) (w : World S)
    → i < fuel → model.exec ask fs (fuel - i) p cs w ≡ model.follows ask fs (model.exec ask fs (fuel - (i + 1))) (model.step ask p w.memory) cs w
exec_is ask fs fuel i p cs w lt = let next : fuel - i ≡ suc (fuel - (i + 1)) = omega (arith, lt) in ap (λ n. model.exec ask fs n p cs w) next

pub runs_begin : {M S : Type 0} (stands : M → S → Type 0) (ask : Question → S → Reply S) (fs : List Function) (fuel : ℕ) (a : Machine) (m : M) (p : model.Place) (cs : List model.Caller) (w : World S)
    → Runs stands a m p cs w → Onward stands a m (model.exec ask fs (fuel - 0)) (model.exec ask fs fuel p cs w)
runs_begin stands ask fs fuel a m p cs w r =
    let whole : fuel ≡ fuel - 0 = omega arith in
    record { place = p; callers = cs; world = w; runs = r; is = ap (λ n. model.exec ask fs n p cs w) whole }

pub runs_more : {M S : Type 0} (stands : M → S → Type 0) (ask : Question → S → Reply S) (fs : List Function) (fuel i : ℕ) (a new : Machine) (m m1 : M) (out : model.Outcome S)
    → i < fuel → (on : Onward stands a m (model.exec ask fs (fuel - i)) out)
    → ((p : model.Place) (cs : List model.Caller) (w : World S) → Runs stands a m p cs w → Onward stands new m1 (model.exec ask fs (fuel - (i + 1))) (model.follows ask fs (model.exec ask fs (fuel - (i + 1))) (model.step ask p w.memory) cs w))
    → Onward stands new m1 (model.exec ask fs (fuel - (i + 1))) out
runs_more stands ask fs fuel i a new m m1 out lt on h =
    let more = h on.place on.callers on.world on.runs in
    record { place = more.place; callers = more.callers; world = more.world; runs = more.runs; is = on.is ∙ exec_is ask fs fuel i on.place on.callers on.world lt ∙ more.is }

pub runs_over : {M S : Type 0} (stands : M → S → Type 0) (ask : Question → S → Reply S) (fs : List Function) (fuel i : ℕ) (f : Finish) (a new : Machine) (m : M) (out : model.Outcome S)
    → i < fuel → (on : Onward stands a m (model.exec ask fs (fuel - i)) out)
    → ((p : model.Place) (cs : List model.Caller) (w : World S) → Runs stands a m p cs w → Over f new (model.follows ask fs (model.exec ask fs (fuel - (i + 1))) (model.step ask p w.memory) cs w))
    → Over f new out
runs_over stands ask fs fuel i f a new m out lt on h =
    let over = h on.place on.callers on.world on.runs in
    let same = on.is ∙ exec_is ask fs fuel i on.place on.callers on.world lt in
    record { finish = ap (λ o. o.finish) same ∙ over.finish; trace = ap (λ o. o.world.trace) same ∙ over.trace }

pub runs_out : {M S : Type 0} (stands : M → S → Type 0) (ask : Question → S → Reply S) (fs : List Function) (fuel i : ℕ) (a : Machine) (m : M) (out : model.Outcome S)
    → fuel ≤ i → Onward stands a m (model.exec ask fs (fuel - i)) out → Over (finish.Stopped code_stop.More) a out
runs_out stands ask fs fuel i a m out past on =
    let none : fuel - i ≡ 0 = omega (arith, past) in
    let same : out ≡ model.stopped stop.More on.world = on.is ∙ ap (λ n. model.exec ask fs n on.place on.callers on.world) none in
    record { finish = ap (λ o. o.finish) same; trace = ap (λ o. o.world.trace) same ∙ on.runs.trace }
