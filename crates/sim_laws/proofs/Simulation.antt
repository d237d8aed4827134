-- The simulation theorem: where each step of a machine is matched by steps of another, each run of it is matched.
use Rattle.std.proofs.Common.{◌≡◌, ℕ, zero, suc, ◌==◌, Bool, true, false, List, [], ◌∷◌, Option, Some, None, refl, sym, ap, ◌∙◌, subst}
use Rattle.std.specs.Prelude.{length, ℤ, if◌then◌else◌}
use Rattle.number_model.specs.Answers.{Answer, Gives, and_then, present}
use Rattle.number_model.specs.Answers.{Answer as answer}
use Rattle.operation_model.specs.Values.{Value, numbers}
use Rattle.operation_model.specs.Doings.{Question}
use Rattle.form_model.specs.Codes.{Blocks, BlocksEnd, Block, Face, Function, find_function}
use Rattle.machine_model.specs.Worlds.{Stop, More, Undefined, Outside, NoRoom, Reply, ExternalCall, World}
use Rattle.machine_model.specs.Machine.{Spot, Place, Step, Goes, Calls, Returns, Stops, within, performs, step, Caller, Outcome, Finish, Returned, Stopped, with_memory, ending, Next, settles, resumes, Told, tells, external, begins, at_top, calls_body, gives_back, follows, exec}

module _ {State : Type 0} (ask : Question → State → Reply State) where
  -- a step leads to another one by going on
  pub data Leads : Step Place State → Step Place State → Type 0 where
    at_once : {st : Step Place State} → Leads st st
    by_step : {p : Place} {m : State} {st : Step Place State} → Leads (step ask p m) st → Leads (Goes p m) st

  pub leads_on : {st st1 st2 : Step Place State} → Leads st st1 → Leads st1 st2 → Leads st st2
  leads_on at_once other = other
  leads_on (by_step lead) other = by_step (leads_on lead other)

  -- what leads to a place goes on
  pub record Goer (st : Step Place State) : Type 0 where
    pub place : Place
    pub memory : State
    pub is : st ≡ Goes place memory

  pub goer : {p : Place} {m : State} {st : Step Place State} → Leads st (Goes p m) → Goer st
  goer {p} {m} at_once = record { place = p; memory = m; is = refl }
  goer (by_step {p = p} {m = m} lead) = record { place = p; memory = m; is = refl }

module _ {State State' : Type 0} (ask : Question → State → Reply State) (ask' : Question → State' → Reply State') (fs fs' : List Function)
    (W : State → State' → Type 0) (R : Place → State → Place → State' → Type 1) where
  -- Lifting to the level of R
  pub record Up (A : Type 0) : Type 1 where
    pub down : A

  -- places that go together once the second machine has gone on
  pub record Comes (p : Place) (m : State) (st : Step Place State') : Type 1 where
    pub place : Place
    pub memory : State'
    pub leads : Leads ask' st (Goes place memory)
    pub related : R p m place memory

  pub record ComesToStop (e : Stop) (m : State) (st : Step Place State') : Type 1 where
    pub memory : State'
    pub leads : Leads ask' st (Stops e memory)
    pub worlds : W m memory

  abbrev pub StopMatch : Stop → State → Step Place State' → Type 1
  StopMatch Undefined m st = Up (Unit {0})
  StopMatch Outside m st = Up (Unit {0})
  StopMatch More m st = ComesToStop More m st
  StopMatch NoRoom m st = ComesToStop NoRoom m st

  -- behind a call that has returned the second machine goes on, or stops alike
  pub record StopsAt (e : Stop) (m : State) (st : Step Place State') : Type 1 where
    pub memory : State'
    pub is : st ≡ Stops e memory
    pub worlds : W m memory

  abbrev pub SettledStop : Stop → State → Step Place State' → Type 1
  SettledStop Undefined m st = Up (Unit {0})
  SettledStop Outside m st = Up (Unit {0})
  SettledStop More m st = StopsAt More m st
  SettledStop NoRoom m st = StopsAt NoRoom m st

  abbrev pub Settled : Step Place State → Step Place State' → Type 1
  Settled (Goes p m) st = Comes p m st
  Settled (Calls f xs k rs p m) st = Up (Unit {0})
  Settled (Returns xs m) st = Up (Unit {0})
  Settled (Stops e m) st = SettledStop e m st

  -- calls under way that go together: for whatever is returned
  abbrev pub CallerMatch : Caller → Caller → Type 1
  CallerMatch c d = (ys : List Value) (m : State) (m' : State') → W m m'
      → Settled (within c.place.frames (performs ask (c.goes_on ys) c.results c.place.spot m)) (within d.place.frames (performs ask' (d.goes_on ys) d.results d.place.spot m'))

  pub record ComesToCall (f : List ℕ) (xs : List Value) (c : Caller) (m : State) (st : Step Place State') : Type 1 where
    pub caller : Caller
    pub memory : State'
    pub leads : Leads ask' st (Calls f xs caller.goes_on caller.results caller.place memory)
    pub worlds : W m memory
    pub callers : CallerMatch c caller

  pub record ComesToReturn (xs : List Value) (m : State) (st : Step Place State') : Type 1 where
    pub memory : State'
    pub leads : Leads ask' st (Returns xs memory)
    pub worlds : W m memory

  -- a step is matched by where a step of the second machine leads to
  abbrev pub StepMatch : Step Place State → Step Place State' → Type 1
  StepMatch (Goes p m) st = Comes p m st
  StepMatch (Calls f xs k rs p m) st = ComesToCall f xs (record { goes_on = k; results = rs; place = p }) m st
  StepMatch (Returns xs m) st = ComesToReturn xs m st
  StepMatch (Stops e m) st = StopMatch e m st

  pub record BeginsAt (s : Spot) (a : Answer Spot) : Type 1 where
    pub spot : Spot
    pub is : a ≡ Gives spot
    pub related : (m : State) (m' : State') → W m m' → R (at_top s) m (at_top spot) m'

  -- how two functions begin, with the same values
  abbrev pub BeginMatch : Answer Spot → Answer Spot → Type 1
  BeginMatch (Gives s) a = BeginsAt s a
  BeginMatch answer.Undefined a = Up (Unit {0})
  BeginMatch answer.Outside a = Up (Unit {0})

  -- both are external, or both have blocks
  pub data BodyMatch (g g' : Function) : Blocks → Blocks → Type 1 where
    both_external : BodyMatch g g' BlocksEnd BlocksEnd
    both_inner : {l l' : ℕ} {args args' : List ℕ} {ops ops' : _} {more more' : Blocks} → ((xs : List Value) → BeginMatch (begins g xs) (begins g' xs)) → BodyMatch g g' (Block l args ops more) (Block l' args' ops' more')

  pub record FunctionMatch (g g' : Function) : Type 1 where
    pub name : g.name ≡ g'.name
    pub face : g.face ≡ g'.face
    pub bodies : BodyMatch g g' g.body g'.body

  pub record FoundMatch (g : Function) (o : Option Function) : Type 1 where
    pub found : Function
    pub is : o ≡ Some found
    pub match : FunctionMatch g found

  abbrev pub FindMatch : Option Function → Option Function → Type 1
  FindMatch None o = Up (Unit {0})
  FindMatch (Some g) o = FoundMatch g o

  -- the premises: memories go together, each step is matched, and so is each function
  pub record Simulates : Type 1 where
    pub worlds : (p : Place) (m : State) (q : Place) (m' : State') → R p m q m' → W m m'
    pub steps : (p : Place) (m : State) (q : Place) (m' : State') → R p m q m' → StepMatch (step ask p m) (Goes q m')
    pub functions : (name : List ℕ) → FindMatch (find_function name fs) (find_function name fs')

  -- Runs that go together

  pub record SameEnd (finish : Finish) (m : State) (answers : List ℤ) (trace : List ExternalCall) (run : ℕ → Outcome State') : Type 0 where
    pub fuel : ℕ
    pub memory : State'
    pub is : run fuel ≡ record { finish = finish; world = record { memory = memory; answers = answers; trace = trace } }
    pub worlds : W m memory

  abbrev pub AgreedStop : Stop → State → List ℤ → List ExternalCall → (ℕ → Outcome State') → Type 0
  AgreedStop Undefined m answers trace run = Unit {0}
  AgreedStop Outside m answers trace run = Unit {0}
  AgreedStop More m answers trace run = SameEnd (Stopped More) m answers trace run
  AgreedStop NoRoom m answers trace run = SameEnd (Stopped NoRoom) m answers trace run

  abbrev pub AgreedAt : Finish → State → List ℤ → List ExternalCall → (ℕ → Outcome State') → Type 0
  AgreedAt (Returned xs) m answers trace run = SameEnd (Returned xs) m answers trace run
  AgreedAt (Stopped e) m answers trace run = AgreedStop e m answers trace run

  abbrev pub Agreed : Outcome State → (ℕ → Outcome State') → Type 0
  Agreed o run = AgreedAt o.finish o.world.memory o.world.answers o.world.trace run

  -- Leading

  same_world : (next : Next State') (st : Step Place State') (cs : List Caller) (w : World State') (m : State')
      → follows ask' fs' next st cs (with_memory w m) ≡ follows ask' fs' next st cs w
  same_world next (Goes p m1) cs w m = refl
  same_world next (Calls f xs k rs p m1) cs w m = refl
  same_world next (Returns xs m1) cs w m = refl
  same_world next (Stops e m1) cs w m = refl

  lead_follows : {st st1 : Step Place State'} → Leads ask' st st1 → (n : ℕ) (cs : List Caller) (w : World State')
      → (j : ℕ) × (follows ask' fs' (exec ask' fs' j) st cs w ≡ follows ask' fs' (exec ask' fs' n) st1 cs w)
  lead_follows at_once n cs w = (n, refl)
  lead_follows (by_step {p = p} {m = m} lead) n cs w =
      let h = lead_follows lead n cs w in
      (suc h.0, same_world (exec ask' fs' h.0) (step ask' p m) cs w m ∙ h.1)

  end_by : (finish : Finish) (m : State) (answers : List ℤ) (trace : List ExternalCall) (run other : ℕ → Outcome State') → ((n : ℕ) → (j : ℕ) × (other j ≡ run n)) → SameEnd finish m answers trace run → SameEnd finish m answers trace other
  end_by finish m answers trace run other leads s = record { fuel = (leads s.fuel).0; memory = s.memory; is = (leads s.fuel).1 ∙ s.is; worlds = s.worlds }

  agreed_by : (o : Outcome State) (run other : ℕ → Outcome State') → ((n : ℕ) → (j : ℕ) × (other j ≡ run n)) → Agreed o run → Agreed o other
  agreed_by o run other leads = go o.finish
    where
      go : (f : Finish) → AgreedAt f o.world.memory o.world.answers o.world.trace run → AgreedAt f o.world.memory o.world.answers o.world.trace other
      go (Returned xs) s = end_by (Returned xs) _ _ _ run other leads s
      go (Stopped More) s = end_by (Stopped More) _ _ _ run other leads s
      go (Stopped NoRoom) s = end_by (Stopped NoRoom) _ _ _ run other leads s
      go (Stopped Undefined) s = tt
      go (Stopped Outside) s = tt

  -- calls under way, one by one
  pub data CallersMatch : List Caller → List Caller → Type 1 where
    ended_stack : CallersMatch [] []
    longer_stack : {c d : Caller} {cs ds : List Caller} → CallerMatch c d → CallersMatch cs ds → CallersMatch (c ∷ cs) (d ∷ ds)

  abbrev world_of : {S : Type 0} → S → List ℤ → List ExternalCall → World S
  world_of m answers trace = record { memory = m; answers = answers; trace = trace }

  module _ (sim : Simulates) where
    -- runs with so much fuel are matched
    abbrev Matched : ℕ → Type 1
    Matched n = (p : Place) (q : Place) (m : State) (m' : State') (cs ds : List Caller) (answers : List ℤ) (trace : List ExternalCall) → R p m q m' → CallersMatch cs ds
        → Up (Agreed (exec ask fs n p cs (world_of m answers trace)) (λ j. exec ask' fs' j q ds (world_of m' answers trace)))

    module _ (n : ℕ) (matched : Matched n) (answers : List ℤ) (trace : List ExternalCall) where
      goes_matched : (p : Place) (m m0 : State) (m0' : State') (st : Step Place State') (cs ds : List Caller) → Comes p m st → CallersMatch cs ds
          → Agreed (exec ask fs n p cs (world_of m answers trace)) (λ j. follows ask' fs' (exec ask' fs' j) st ds (world_of m0' answers trace))
      goes_matched p m m0 m0' st cs ds c callers =
          agreed_by (exec ask fs n p cs (world_of m answers trace)) (λ j. exec ask' fs' j c.place ds (world_of c.memory answers trace)) _
          (λ k. lead_follows c.leads k ds (world_of m0' answers trace)) (matched p c.place m c.memory cs ds answers trace c.related callers).down

      settled_matched : (st : Step Place State) (st' : Step Place State') (m0 : State) (m0' : State') (cs ds : List Caller) → Settled st st' → CallersMatch cs ds
          → Agreed (settles (exec ask fs n) st cs (world_of m0 answers trace)) (λ j. settles (exec ask' fs' j) st' ds (world_of m0' answers trace))
      settled_matched (Goes p m) st' m0 m0' cs ds s callers =
          let g = goer ask' s.leads in
          subst (λ x. Comes p m x → Agreed (exec ask fs n p cs (world_of m answers trace)) (λ j. settles (exec ask' fs' j) x ds (world_of m0' answers trace))) (sym g.is)
          (λ c. goes_matched p m m0 m0' (Goes g.place g.memory) cs ds c callers) s
      settled_matched (Calls f xs k rs p m) st' m0 m0' cs ds s callers = tt
      settled_matched (Returns xs m) st' m0 m0' cs ds s callers = tt
      settled_matched (Stops Undefined m) st' m0 m0' cs ds s callers = tt
      settled_matched (Stops Outside m) st' m0 m0' cs ds s callers = tt
      settled_matched (Stops More m) st' m0 m0' cs ds s callers = record { fuel = 0; memory = s.memory; is = ap (λ x. settles (exec ask' fs' 0) x ds (world_of m0' answers trace)) s.is; worlds = s.worlds }
      settled_matched (Stops NoRoom m) st' m0 m0' cs ds s callers = record { fuel = 0; memory = s.memory; is = ap (λ x. settles (exec ask' fs' 0) x ds (world_of m0' answers trace)) s.is; worlds = s.worlds }

      -- a call that has returned
      resumes_matched : (ys : List Value) (c d : Caller) (m : State) (m' : State') (cs ds : List Caller) → W m m' → CallerMatch c d → CallersMatch cs ds
          → Agreed (resumes ask (exec ask fs n) (c.goes_on ys) c.results c.place cs (world_of m answers trace)) (λ j. resumes ask' (exec ask' fs' j) (d.goes_on ys) d.results d.place ds (world_of m' answers trace))
      resumes_matched ys c d m m' cs ds worlds match callers = settled_matched _ _ m m' cs ds (match ys m m' worlds) callers

      back_matched : (xs : List Value) (m : State) (m' : State') (cs ds : List Caller) → W m m' → CallersMatch cs ds
          → Agreed (gives_back ask (exec ask fs n) xs cs (world_of m answers trace)) (λ j. gives_back ask' (exec ask' fs' j) xs ds (world_of m' answers trace))
      back_matched xs m m' _ _ worlds ended_stack = record { fuel = 0; memory = m'; is = refl; worlds = worlds }
      back_matched xs m m' _ _ worlds (longer_stack {c = c} {d = d} {cs = cs} {ds = ds} match callers) = resumes_matched xs c d m m' cs ds worlds match callers

      -- a call of a function with blocks
      begins_matched : (a b : Answer Spot) (c d : Caller) (m : State) (m' : State') (cs ds : List Caller) → W m m' → CallerMatch c d → CallersMatch cs ds → BeginMatch a b
          → Agreed (ending a (world_of m answers trace) (λ s. exec ask fs n (at_top s) (c ∷ cs) (world_of m answers trace)))
          (λ j. ending b (world_of m' answers trace) (λ s. exec ask' fs' j (at_top s) (d ∷ ds) (world_of m' answers trace)))
      begins_matched (Gives s) b c d m m' cs ds worlds match callers h =
          subst (λ x. Agreed (exec ask fs n (at_top s) (c ∷ cs) (world_of m answers trace)) (λ j. ending x (world_of m' answers trace) (λ t. exec ask' fs' j (at_top t) (d ∷ ds) (world_of m' answers trace)))) (sym h.is)
          (matched (at_top s) (at_top h.spot) m m' (c ∷ cs) (d ∷ ds) answers trace (h.related m m' worlds) (longer_stack match callers)).down
      begins_matched answer.Undefined b c d m m' cs ds worlds match callers h = tt
      begins_matched answer.Outside b c d m m' cs ds worlds match callers h = tt

    -- a call of an external function
    abbrev external_by : {S : Type 0} → Function → List Value → World S → Option (List ℕ) → Option (List ℕ) → Answer (Told S)
    external_by f xs w inputs outputs =
        and_then (present inputs) (λ ins. and_then (present outputs) (λ outs.
        if length xs == length ins then and_then (numbers xs) (λ ns. Gives (tells f ins outs ns w)) else answer.Outside))

    module _ (n : ℕ) (matched : Matched n) (f f' : Function) (name : f.name ≡ f'.name) (face : f.face ≡ f'.face) (xs : List Value) (c d : Caller) (m : State) (m' : State') (cs ds : List Caller)
        (answers : List ℤ) (trace : List ExternalCall) (worlds : W m m') (match : CallerMatch c d) (callers : CallersMatch cs ds) where
      abbrev left : Answer (Told State) → Outcome State
      left a = ending a (world_of m answers trace) (λ t. resumes ask (exec ask fs n) (c.goes_on t.values) c.results c.place cs t.world)

      abbrev right : Answer (Told State') → ℕ → Outcome State'
      right a j = ending a (world_of m' answers trace) (λ t. resumes ask' (exec ask' fs' j) (d.goes_on t.values) d.results d.place ds t.world)

      tells_same : {S : Type 0} (g : Function) (ins outs ns : List ℕ) (w : World S) (a : Face) (b : List ℕ) → a ≡ g.face → b ≡ g.name → tells (record { name = b; face = a; shapes = g.shapes; body = g.body }) ins outs ns w ≡ tells g ins outs ns w
      tells_same g ins outs ns w a b same_face same_name =
          ap (λ x. tells (record { name = b; face = x; shapes = g.shapes; body = g.body }) ins outs ns w) same_face
          ∙ ap (λ x. tells (record { name = x; face = g.face; shapes = g.shapes; body = g.body }) ins outs ns w) same_name

      by_numbers : (ins outs : List ℕ) (ns : Answer (List ℕ))
          → Agreed (left (and_then ns (λ ks. Gives (tells f ins outs ks (world_of m answers trace))))) (right (and_then ns (λ ks. Gives (tells f' ins outs ks (world_of m' answers trace)))))
      by_numbers ins outs (Gives ks) =
          let t = tells f ins outs ks (world_of m answers trace) in
          subst (λ x. Agreed (left (Gives t)) (right (Gives x))) (tells_same f' ins outs ks (world_of m' answers trace) f.face f.name face name)
          (resumes_matched n matched t.world.answers t.world.trace t.values c d m m' cs ds worlds match callers)
      by_numbers ins outs answer.Undefined = tt
      by_numbers ins outs answer.Outside = tt

      by_count : (ins outs : List ℕ) (b : Bool)
          → Agreed (left (if b then and_then (numbers xs) (λ ks. Gives (tells f ins outs ks (world_of m answers trace))) else answer.Outside))
          (right (if b then and_then (numbers xs) (λ ks. Gives (tells f' ins outs ks (world_of m' answers trace))) else answer.Outside))
      by_count ins outs true = by_numbers ins outs (numbers xs)
      by_count ins outs false = tt

      by_widths : (inputs outputs : Option (List ℕ))
          → Agreed (left (external_by f xs (world_of m answers trace) inputs outputs)) (right (external_by f' xs (world_of m' answers trace) inputs outputs))
      by_widths None outputs = tt
      by_widths (Some ins) None = tt
      by_widths (Some ins) (Some outs) = by_count ins outs (length xs == length ins)

      external_matched : Agreed (left (external f xs (world_of m answers trace))) (right (external f' xs (world_of m' answers trace)))
      external_matched =
          subst (λ x. Agreed (left (external f xs (world_of m answers trace))) (right (external_by f' xs (world_of m' answers trace) x.inputs x.outputs))) face
          (by_widths f.face.inputs f.face.outputs)

      body_matched : (b b' : Blocks) → BodyMatch f f' b b'
          → Agreed (calls_body ask (exec ask fs n) b f xs c cs (world_of m answers trace)) (λ j. calls_body ask' (exec ask' fs' j) b' f' xs d ds (world_of m' answers trace))
      body_matched _ _ both_external = external_matched
      body_matched _ _ (both_inner begin) = begins_matched n matched answers trace (begins f xs) (begins f' xs) c d m m' cs ds worlds match callers (begin xs)

    module _ (n : ℕ) (matched : Matched n) (answers : List ℤ) (trace : List ExternalCall) where
      found_matched : (f : List ℕ) (xs : List Value) (o : Option Function) (o' : Option Function) (c d : Caller) (m : State) (m' : State') (cs ds : List Caller) → W m m' → CallerMatch c d → CallersMatch cs ds → FindMatch o o'
          → Agreed (ending (present o) (world_of m answers trace) (λ g. calls_body ask (exec ask fs n) g.body g xs c cs (world_of m answers trace)))
          (λ j. ending (present o') (world_of m' answers trace) (λ g. calls_body ask' (exec ask' fs' j) g.body g xs d ds (world_of m' answers trace)))
      found_matched f xs None o' c d m m' cs ds worlds match callers h = tt
      found_matched f xs (Some g) o' c d m m' cs ds worlds match callers h =
          subst (λ x. Agreed (calls_body ask (exec ask fs n) g.body g xs c cs (world_of m answers trace))
          (λ j. ending (present x) (world_of m' answers trace) (λ k. calls_body ask' (exec ask' fs' j) k.body k xs d ds (world_of m' answers trace)))) (sym h.is)
          (body_matched n matched g h.found h.match.name h.match.face xs c d m m' cs ds answers trace worlds match callers g.body h.found.body h.match.bodies)

      -- what a step comes to
      follow_matched : (st : Step Place State) (st' : Step Place State') (m0 : State) (m0' : State') (cs ds : List Caller) → StepMatch st st' → CallersMatch cs ds
          → Agreed (follows ask fs (exec ask fs n) st cs (world_of m0 answers trace)) (λ j. follows ask' fs' (exec ask' fs' j) st' ds (world_of m0' answers trace))
      follow_matched (Goes p m) st' m0 m0' cs ds h callers = goes_matched n matched answers trace p m m0 m0' st' cs ds h callers
      follow_matched (Calls f xs k rs p m) st' m0 m0' cs ds h callers =
          agreed_by (follows ask fs (exec ask fs n) (Calls f xs k rs p m) cs (world_of m0 answers trace))
          (λ j. follows ask' fs' (exec ask' fs' j) (Calls f xs h.caller.goes_on h.caller.results h.caller.place h.memory) ds (world_of m0' answers trace)) _
          (λ j. lead_follows h.leads j ds (world_of m0' answers trace))
          (found_matched f xs (find_function f fs) (find_function f fs') (record { goes_on = k; results = rs; place = p }) h.caller m h.memory cs ds h.worlds h.callers callers (sim.functions f))
      follow_matched (Returns xs m) st' m0 m0' cs ds h callers =
          agreed_by (follows ask fs (exec ask fs n) (Returns xs m) cs (world_of m0 answers trace)) (λ j. follows ask' fs' (exec ask' fs' j) (Returns xs h.memory) ds (world_of m0' answers trace)) _
          (λ j. lead_follows h.leads j ds (world_of m0' answers trace)) (back_matched n matched answers trace xs m h.memory cs ds h.worlds callers)
      follow_matched (Stops Undefined m) st' m0 m0' cs ds h callers = tt
      follow_matched (Stops Outside m) st' m0 m0' cs ds h callers = tt
      follow_matched (Stops More m) st' m0 m0' cs ds h callers =
          let l = lead_follows h.leads 0 ds (world_of m0' answers trace) in record { fuel = l.0; memory = h.memory; is = l.1; worlds = h.worlds }
      follow_matched (Stops NoRoom m) st' m0 m0' cs ds h callers =
          let l = lead_follows h.leads 0 ds (world_of m0' answers trace) in record { fuel = l.0; memory = h.memory; is = l.1; worlds = h.worlds }

    -- Each run of the first machine is matched by one of the second.
    pub run_matched : (n : ℕ) → Matched n
    run_matched zero = λ p q m m' cs ds answers trace r callers. record { down = record { fuel = 0; memory = m'; is = refl; worlds = sim.worlds p m q m' r } }
    run_matched (suc n) = λ p q m m' cs ds answers trace r callers. record {
      down = by_fuel p q m m' cs ds answers trace (follow_matched n (run_matched n) answers trace (step ask p m) (Goes q m') m m' cs ds (sim.steps p m q m' r) callers);
    }
      where
        by_fuel : (p q : Place) (m : State) (m' : State') (cs ds : List Caller) (answers : List ℤ) (trace : List ExternalCall)
            → Agreed (follows ask fs (exec ask fs n) (step ask p m) cs (world_of m answers trace)) (λ j. follows ask' fs' (exec ask' fs' j) (Goes q m') ds (world_of m' answers trace))
            → Agreed (exec ask fs (suc n) p cs (world_of m answers trace)) (λ j. exec ask' fs' j q ds (world_of m' answers trace))
        by_fuel p q m m' cs ds answers trace h = h
