-- What a run leaves of its world, and what more fuel makes of a run.
use Rattle.std.proofs.Common.{◌≡◌, ◌⊎◌, inl, inr, ℕ, zero, suc, ◌≤◌, List, [], ◌∷◌, ◌++◌, Bool, true, false, refl, sym, ap, ◌∙◌, append_assoc, append-nil, arith}
use Rattle.std.specs.Prelude.{length, ◌==◌, if◌then◌else◌}
use Rattle.number_model.specs.Answers.{Answer, Gives, and_then, present}
use Rattle.number_model.specs.Answers.{Answer as answer}
use Rattle.operation_model.specs.Values.{Value, Integer, number, numbers}
use Rattle.operation_model.specs.Pures.{truth}
use Rattle.operation_model.specs.Doings.{Doing, Ends, Asks, Jumps, Question}
use Rattle.operation_model.specs.Doings.{Doing as doing}
use Rattle.operation_model.specs.Forms.{Form, If, For, While, Switch, Execute, Yield, Condition}
use Rattle.operation_model.specs.Straight.{does}
use Rattle.form_model.specs.Codes.{Ops, OpsEnd, Op, Blocks, BlocksEnd, Block, Regions, region_at, Target, entry, find_block, Function, find_function, Env, lookups, bind}
use Rattle.machine_model.specs.Worlds.{IsPrefix, Stop, More, Undefined, Outside, Reply, Answers, Refuses, ExternalCall, World}
use Rattle.machine_model.specs.Machine.{Spot, Behind, Counting, Looping, Frame, Once, Body, Before, After, Place, Step, Goes, Calls, Returns, Stops, within, stepping, on_reply, performs, enters, leaves, has_round, tested, turns, next_number, counts, case_of, enters_once, yields, decided, decides, first_if, acts, step_at, step, Caller, Outcome, Finish, Returned, Stopped, with_memory, stopped, ending, Next, settles, resumes, external, tells, Told, begins, at_top, calls_body, gives_back, follows, exec}

prefix_refl : (xs : List ExternalCall) → IsPrefix xs xs
prefix_refl xs = record { rest = []; is = sym (append-nil xs) }

prefix_trans : {xs ys zs : List ExternalCall} → IsPrefix xs ys → IsPrefix ys zs → IsPrefix xs zs
prefix_trans {xs} p q = record { rest = p.rest ++ q.rest; is = q.is ∙ ap (λ l. l ++ q.rest) p.is ∙ append_assoc xs p.rest q.rest }

-- Memories grow, and only some stops are allowed
module _ {State : Type 0} (ask : Question → State → Reply State) (fs : List Function)
    (Grows : State → State → Type 0) (grows_refl : (m : State) → Grows m m) (grows_trans : (l m n : State) → Grows l m → Grows m n → Grows l n)
    (Allowed : Stop → Type 0) (more_allowed : Allowed More) (undefined_allowed : Allowed Undefined) (outside_allowed : Allowed Outside) where
  abbrev pub ReplyFrom : State → Reply State → Type 0
  ReplyFrom m (Answers ys m1) = Grows m m1
  ReplyFrom m (Refuses e) = Allowed e

  abbrev pub StepFrom : {P : Type 0} → State → Step P State → Type 0
  StepFrom m (Goes p m1) = Grows m m1
  StepFrom m (Calls f xs k rs p m1) = Grows m m1
  StepFrom m (Returns xs m1) = Grows m m1
  StepFrom m (Stops e m1) = Grows m m1 × Allowed e

  -- a world that has grown, with its trace going on
  pub record Leads (w w1 : World State) : Type 0 where
    pub memory : Grows w.memory w1.memory
    pub trace : IsPrefix w.trace w1.trace

  abbrev pub AllowedFinish : Finish → Type 0
  AllowedFinish (Returned xs) = Unit {0}
  AllowedFinish (Stopped e) = Allowed e

  pub record Reaches (w : World State) (o : Outcome State) : Type 0 where
    pub world : Leads w o.world
    pub finish : AllowedFinish o.finish

  leads_refl : (w : World State) → Leads w w
  leads_refl w = record { memory = grows_refl w.memory; trace = prefix_refl w.trace }

  leads_trans : (u v w : World State) → Leads u v → Leads v w → Leads u w
  leads_trans u v w a b = record { memory = grows_trans u.memory v.memory w.memory a.memory b.memory; trace = prefix_trans a.trace b.trace }

  leads_memory : (w : World State) (m : State) → Grows w.memory m → Leads w (with_memory w m)
  leads_memory w m g = record { memory = g; trace = prefix_refl w.trace }

  reaches_from : (u v : World State) (o : Outcome State) → Leads u v → Reaches v o → Reaches u o
  reaches_from u v o a r = record { world = leads_trans u v o.world a r.world; finish = r.finish }

  step_from : {P : Type 0} (l m : State) (st : Step P State) → Grows l m → StepFrom m st → StepFrom l st
  step_from l m (Goes p n) g h = grows_trans l m n g h
  step_from l m (Calls f xs k rs p n) g h = grows_trans l m n g h
  step_from l m (Returns xs n) g h = grows_trans l m n g h
  step_from l m (Stops e n) g h = (grows_trans l m n g h.0, h.1)

  stepping_from : {A P : Type 0} (a : Answer A) (m : State) (next : A → Step P State) → ((x : A) → StepFrom m (next x)) → StepFrom m (stepping a m next)
  stepping_from (Gives x) m next h = h x
  stepping_from answer.Undefined m next h = (grows_refl m, undefined_allowed)
  stepping_from answer.Outside m next h = (grows_refl m, outside_allowed)

  within_from : (frames : List Frame) (m : State) (st : Step Spot State) → StepFrom m st → StepFrom m (within frames st)
  within_from frames m (Goes s n) h = h
  within_from frames m (Calls f xs k rs s n) h = h
  within_from frames m (Returns xs n) h = h
  within_from frames m (Stops e n) h = h

  -- where the memory's replies are so, so are the steps
  module _ (asks : (q : Question) (m : State) → ReplyFrom m (ask q m)) where
    reply_from : (m : State) (r : Reply State) (next : List Value → State → Step Spot State) → ReplyFrom m r
        → ((ys : List Value) (n : State) → StepFrom n (next ys n)) → StepFrom m (on_reply m r next)
    reply_from m (Answers ys n) next g h = step_from m n (next ys n) g (h ys n)
    reply_from m (Refuses e) next g h = (grows_refl m, g)

    performs_from : (d : Doing) (rs : List ℕ) (s : Spot) (m : State) → StepFrom m (performs ask d rs s m)
    performs_from (Ends ys) rs s m = stepping_from (present (bind rs ys s.env)) m _ (λ env. grows_refl m)
    performs_from (Asks q k) rs s m = reply_from m (ask q m) _ (asks q m) (λ ys n. performs_from (k ys) rs s n)
    performs_from (doing.Calls f xs k) rs s m = grows_refl m
    performs_from (Jumps l ys) rs s m =
        stepping_from (present (find_block l s.blocks)) m _ (λ t. stepping_from (present (bind t.args ys s.env)) m _ (λ env. grows_refl m))
    performs_from (doing.Returns ys) rs s m = grows_refl m
    performs_from doing.Undefined rs s m = (grows_refl m, undefined_allowed)
    performs_from doing.Outside rs s m = (grows_refl m, outside_allowed)

    enters_from : (b : Blocks) (xs : List Value) (env : Env) (frames : List Frame) (m : State) → StepFrom m (enters b xs env frames m)
    enters_from b xs env frames m =
        stepping_from (present (entry b)) m _ (λ t. stepping_from (present (bind t.args xs env)) m _ (λ inner. grows_refl m))

    leaves_from : (b : Behind) (xs : List Value) (env : Env) (frames : List Frame) (m : State) → StepFrom m (leaves b xs env frames m)
    leaves_from b xs env frames m = stepping_from (present (bind b.results xs env)) m _ (λ outer. grows_refl m)

    once_from : (r : Blocks) (b : Behind) (env : Env) (frames : List Frame) (m : State) → StepFrom m (enters_once r b env frames m)
    once_from BlocksEnd b env frames m = leaves_from b [] env frames m
    once_from (Block l args ops more) b env frames m = enters_from (Block l args ops more) [] env (Once b ∷ frames) m

    tested_from : (goes : Bool) (t : Target) (c : Counting) (i : ℕ) (xs : List Value) (b : Behind) (env : Env) (frames : List Frame) (m : State)
        → StepFrom m (tested goes t c i xs b env frames m)
    tested_from true t c i xs b env frames m = grows_refl m
    tested_from false t c i xs b env frames m = leaves_from b xs env frames m

    turns_from : (c : Counting) (i : ℕ) (xs : List Value) (b : Behind) (env : Env) (frames : List Frame) (m : State) → StepFrom m (turns c i xs b env frames m)
    turns_from c i xs b env frames m =
        stepping_from (present (entry c.body)) m _ (λ t. stepping_from (present (bind t.args (Integer i ∷ xs) env)) m _ (λ inner.
        tested_from (has_round c i) t c i xs b inner frames m))

    yields_from : (xs : List Value) (env : Env) (frames : List Frame) (m : State) → StepFrom m (yields xs env frames m)
    yields_from xs env [] m = (grows_refl m, outside_allowed)
    yields_from xs env (Once b ∷ frames) m = leaves_from b xs env frames m
    yields_from xs env (Body c i b ∷ frames) m = stepping_from (next_number c i) m _ (λ k. turns_from c k xs b env frames m)
    yields_from xs env (Before l b ∷ frames) m = (grows_refl m, outside_allowed)
    yields_from xs env (After l b ∷ frames) m = enters_from l.before xs env (Before l b ∷ frames) m

    decided_from : (holds : Bool) (l : Looping) (xs : List Value) (b : Behind) (env : Env) (frames : List Frame) (m : State)
        → StepFrom m (decided holds l xs b env frames m)
    decided_from true l xs b env frames m = enters_from l.after xs env (After l b ∷ frames) m
    decided_from false l xs b env frames m = leaves_from b xs env frames m

    decides_from : (c : Value) (xs : List Value) (env : Env) (frames : List Frame) (m : State) → StepFrom m (decides c xs env frames m)
    decides_from c xs env (Before l b ∷ frames) m = stepping_from (truth c) m _ (λ holds. decided_from holds l xs b env frames m)
    decides_from c xs env _ m = (grows_refl m, outside_allowed)

    acts_from : (form : Form) (rs : List ℕ) (xs : List Value) (ls : List ℕ) (held : Regions) (b : Behind) (env : Env) (frames : List Frame) (m : State)
        → StepFrom m (acts ask form rs xs ls held b env frames m)
    acts_from If rs (c ∷ []) ls held b env frames m =
        stepping_from (truth c) m _ (λ holds. once_from (region_at (first_if holds) held) b env frames m)
    acts_from (For w) rs (x ∷ y ∷ z ∷ xs) ls held b env frames m =
        stepping_from (counts w x y z (region_at 0 held)) m _ (λ start. turns_from start.1 start.0 xs b env frames m)
    acts_from While rs xs ls held b env frames m = enters_from (region_at 0 held) xs env _ m
    acts_from (Switch w cases) rs (x ∷ []) ls held b env frames m =
        stepping_from (number x) m _ (λ n. once_from (region_at (case_of w n 1 cases) held) b env frames m)
    acts_from Execute rs [] ls held b env frames m = enters_from (region_at 0 held) [] env (Once b ∷ frames) m
    acts_from Yield rs xs ls held b env frames m = yields_from xs env frames m
    acts_from Condition rs (c ∷ xs) ls held b env frames m = decides_from c xs env frames m
    acts_from form rs xs ls held b env frames m =
        within_from frames m (performs ask (does form ls xs) rs (record { ops = b.rest; blocks = b.blocks; env = env }) m)
        (performs_from (does form ls xs) rs (record { ops = b.rest; blocks = b.blocks; env = env }) m)

    at_from : (ops : Ops) (blocks : Blocks) (env : Env) (frames : List Frame) (m : State) → StepFrom m (step_at ask ops blocks env frames m)
    at_from OpsEnd blocks env frames m = (grows_refl m, outside_allowed)
    at_from (Op form rs os ls held rest) blocks env frames m =
        stepping_from (present (lookups os env)) m _ (λ xs. acts_from form rs xs ls held _ env frames m)

    steps_from : (p : Place) (m : State) → StepFrom m (step ask p m)
    steps_from p m = at_from p.spot.ops p.spot.blocks p.spot.env p.frames m

    -- How a run goes on reaches from where it goes on.
    abbrev pub NextFrom : Next State → Type 0
    NextFrom next = (p : Place) (cs : List Caller) (w : World State) → Reaches w (next p cs w)

    stopped_from : (e : Stop) (w : World State) → Allowed e → Reaches w (stopped e w)
    stopped_from e w a = record { world = leads_refl w; finish = a }

    ending_from : {A : Type 0} (a : Answer A) (w : World State) (next : A → Outcome State) → ((x : A) → Reaches w (next x)) → Reaches w (ending a w next)
    ending_from (Gives x) w next h = h x
    ending_from answer.Undefined w next h = stopped_from Undefined w undefined_allowed
    ending_from answer.Outside w next h = stopped_from Outside w outside_allowed

    -- what was told leads on from the world
    abbrev AllTold : World State → Answer (Told State) → Type 0
    AllTold w (Gives t) = Leads w t.world
    AllTold w _ = Unit {0}

    then_told : {A : Type 0} (w : World State) (a : Answer A) (next : A → Answer (Told State)) → ((x : A) → AllTold w (next x)) → AllTold w (and_then a next)
    then_told w (Gives x) next h = h x
    then_told w answer.Undefined next h = tt
    then_told w answer.Outside next h = tt

    if_told : (w : World State) (b : Bool) (a c : Answer (Told State)) → AllTold w a → AllTold w c → AllTold w (if b then a else c)
    if_told w true a c h k = h
    if_told w false a c h k = k

    tells_from : (f : Function) (inputs outputs ns : List ℕ) (w : World State) → Leads w (tells f inputs outputs ns w).world
    tells_from f inputs outputs ns w = record { memory = grows_refl w.memory; trace = record { rest = _; is = refl } }

    external_from : (f : Function) (xs : List Value) (w : World State) → AllTold w (external f xs w)
    external_from f xs w =
        then_told w (present f.face.inputs) _ (λ inputs. then_told w (present f.face.outputs) _ (λ outputs.
        if_told w (length xs == length inputs) _ answer.Outside (then_told w (numbers xs) _ (λ ns. tells_from f inputs outputs ns w)) tt))

    telling_from : (a : Answer (Told State)) (w : World State) (next : Told State → Outcome State) → AllTold w a
        → ((t : Told State) → Reaches t.world (next t)) → Reaches w (ending a w next)
    telling_from (Gives t) w next l h = reaches_from w t.world (next t) l (h t)
    telling_from answer.Undefined w next l h = stopped_from Undefined w undefined_allowed
    telling_from answer.Outside w next l h = stopped_from Outside w outside_allowed

    module _ (next : Next State) (nexts : NextFrom next) where
      goes_from : (p : Place) (cs : List Caller) (w : World State) (m : State) → Grows w.memory m → Reaches w (next p cs (with_memory w m))
      goes_from p cs w m g = reaches_from w (with_memory w m) _ (leads_memory w m g) (nexts p cs (with_memory w m))

      stops_from : (e : Stop) (w : World State) (m : State) → Grows w.memory m → Allowed e → Reaches w (stopped e (with_memory w m))
      stops_from e w m g a = record { world = leads_memory w m g; finish = a }

      settles_from : (st : Step Place State) (cs : List Caller) (w : World State) → StepFrom w.memory st → Reaches w (settles next st cs w)
      settles_from (Goes p m) cs w g = goes_from p cs w m g
      settles_from (Calls f xs k rs p m) cs w g = stops_from Outside w m g outside_allowed
      settles_from (Returns xs m) cs w g = stops_from Outside w m g outside_allowed
      settles_from (Stops e m) cs w g = stops_from e w m g.0 g.1

      resumes_from : (d : Doing) (rs : List ℕ) (p : Place) (cs : List Caller) (w : World State) → Reaches w (resumes ask next d rs p cs w)
      resumes_from d rs p cs w = settles_from (within p.frames (performs ask d rs p.spot w.memory)) cs w (within_from p.frames w.memory _ (performs_from d rs p.spot w.memory))

      gives_from : (xs : List Value) (cs : List Caller) (w : World State) → Reaches w (gives_back ask next xs cs w)
      gives_from xs [] w = record { world = leads_refl w; finish = tt }
      gives_from xs (c ∷ cs) w = resumes_from (c.goes_on xs) c.results c.place cs w

      body_from : (body : Blocks) (f : Function) (xs : List Value) (c : Caller) (cs : List Caller) (w : World State) → Reaches w (calls_body ask next body f xs c cs w)
      body_from BlocksEnd f xs c cs w =
          telling_from (external f xs w) w _ (external_from f xs w) (λ t. resumes_from (c.goes_on t.values) c.results c.place cs t.world)
      body_from (Block l args ops more) f xs c cs w = ending_from (begins f xs) w _ (λ s. nexts (at_top s) (c ∷ cs) w)

      follows_from : (st : Step Place State) (cs : List Caller) (w : World State) → StepFrom w.memory st → Reaches w (follows ask fs next st cs w)
      follows_from (Goes p m) cs w g = goes_from p cs w m g
      follows_from (Calls f xs k rs p m) cs w g =
          reaches_from w (with_memory w m) _ (leads_memory w m g)
          (ending_from (present (find_function f fs)) (with_memory w m) _ (λ h. body_from h.body h xs _ cs (with_memory w m)))
      follows_from (Returns xs m) cs w g = reaches_from w (with_memory w m) _ (leads_memory w m g) (gives_from xs cs (with_memory w m))
      follows_from (Stops e m) cs w g = stops_from e w m g.0 g.1

    pub exec_from : (n : ℕ) → NextFrom (exec ask fs n)
    exec_from zero p cs w = stopped_from More w more_allowed
    exec_from (suc n) p cs w = follows_from (exec ask fs n) (exec_from n) (step ask p w.memory) cs w (steps_from p w.memory)

    -- More fuel: the run is the same, or it wanted more and its world leads on.
    abbrev pub Extends : Outcome State → Outcome State → Type 0
    Extends o longer = (longer ≡ o) ⊎ ((o.finish ≡ Stopped More) × Leads o.world longer.world)

    module _ (next longer : Next State) (extends : (p : Place) (cs : List Caller) (w : World State) → Extends (next p cs w) (longer p cs w)) where
      ending_more : {A : Type 0} (a : Answer A) (w : World State) (out out1 : A → Outcome State) → ((x : A) → Extends (out x) (out1 x))
          → Extends (ending a w out) (ending a w out1)
      ending_more (Gives x) w out out1 h = h x
      ending_more answer.Undefined w out out1 h = inl refl
      ending_more answer.Outside w out out1 h = inl refl

      settles_more : (st : Step Place State) (cs : List Caller) (w : World State) → Extends (settles next st cs w) (settles longer st cs w)
      settles_more (Goes p m) cs w = extends p cs (with_memory w m)
      settles_more (Calls f xs k rs p m) cs w = inl refl
      settles_more (Returns xs m) cs w = inl refl
      settles_more (Stops e m) cs w = inl refl

      resumes_more : (d : Doing) (rs : List ℕ) (p : Place) (cs : List Caller) (w : World State) → Extends (resumes ask next d rs p cs w) (resumes ask longer d rs p cs w)
      resumes_more d rs p cs w = settles_more (within p.frames (performs ask d rs p.spot w.memory)) cs w

      gives_more : (xs : List Value) (cs : List Caller) (w : World State) → Extends (gives_back ask next xs cs w) (gives_back ask longer xs cs w)
      gives_more xs [] w = inl refl
      gives_more xs (c ∷ cs) w = resumes_more (c.goes_on xs) c.results c.place cs w

      body_more : (body : Blocks) (f : Function) (xs : List Value) (c : Caller) (cs : List Caller) (w : World State)
          → Extends (calls_body ask next body f xs c cs w) (calls_body ask longer body f xs c cs w)
      body_more BlocksEnd f xs c cs w = ending_more (external f xs w) w _ _ (λ t. resumes_more (c.goes_on t.values) c.results c.place cs t.world)
      body_more (Block l args ops more) f xs c cs w = ending_more (begins f xs) w _ _ (λ s. extends (at_top s) (c ∷ cs) w)

      follows_more : (st : Step Place State) (cs : List Caller) (w : World State) → Extends (follows ask fs next st cs w) (follows ask fs longer st cs w)
      follows_more (Goes p m) cs w = extends p cs (with_memory w m)
      follows_more (Calls f xs k rs p m) cs w =
          ending_more (present (find_function f fs)) (with_memory w m) _ _ (λ g. body_more g.body g xs _ cs (with_memory w m))
      follows_more (Returns xs m) cs w = gives_more xs cs (with_memory w m)
      follows_more (Stops e m) cs w = inl refl

    pub exec_more : (n m : ℕ) → n ≤ m → (p : Place) (cs : List Caller) (w : World State) → Extends (exec ask fs n p cs w) (exec ask fs m p cs w)
    exec_more zero m le p cs w = inr (refl, (exec_from m p cs w).world)
    exec_more (suc n) zero le p cs w = absurd (omega arith)
    exec_more (suc n) (suc m) le p cs w = follows_more (exec ask fs n) (exec ask fs m) (exec_more n m (omega arith)) (step ask p w.memory) cs w
