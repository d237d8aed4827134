-- Functions of which one has other operands agree, where a predicate on its places that each step keeps says that they have the same values.
use Rattle.std.proofs.Common.{◌≡◌, ℕ, ◌≤◌, Bool, true, false, List, [], ◌∷◌, Option, Some, None, refl, sym, subst, arith}
use Rattle.std.specs.Prelude.{bytes_eq, if◌then◌else◌}
use Rattle.number_model.specs.Answers.{Answer, Gives, and_then, present}
use Rattle.number_model.specs.Answers.{Answer as answer}
use Rattle.operation_model.specs.Values.{Value}
use Rattle.operation_model.specs.Calling.{Shapes, gathered}
use Rattle.form_model.specs.Codes.{Ops, Blocks, BlocksEnd, Block, Target, Env, Face, Function, bind, entry, find_function}
use Rattle.machine_model.specs.Worlds.{Stop, More, Undefined, Outside, NoRoom}
use Rattle.machine_model.specs.Machine.{Spot, Place, Frame, Step, Goes, Calls, Returns, Stops, begins, performs, step, within}
use Rattle.meaning_model.specs.Buffers.{Heap, ask_heap}
use Rattle.sound_model.specs.Agreement.{AgreeFunctions}
use Rattle.sim_laws.proofs.Simulation as sim
use Rattle.sim_laws.proofs.Entries.{agree}
use Rattle.cast_laws.proofs.Mapped.{SameValues, blocks_to, one_step_to, ops_to, performs_to, place_to, step_to}
use Rattle.cast_laws.proofs.Closed.{Closed, Invariant, SettledKeeps, Stands, StepKeeps, step_keeps}

module _ (to : ℕ → ℕ) (I : Invariant) (closed : Closed I) (same_values : (ops : Ops) (b : Blocks) (env : Env) (frames : List Frame) → I ops b env frames → SameValues to ask_heap ops env) where
  -- functions that stay, and those with other operands
  pub record Mapped (g g' : Function) : Type 0 where
    pub name : g.name ≡ g'.name
    pub face : g.face ≡ g'.face
    pub shapes : g.shapes ≡ g'.shapes
    pub body : blocks_to to g.body ≡ g'.body
    pub begins : (t : Target) → entry g.body ≡ Some t → (xs : List Value) (e : Env) → bind t.args xs [] ≡ Some e → I t.ops g.body e []

  pub data FunctionsMapped : List Function → List Function → Type 0 where
    ended : FunctionsMapped [] []
    same : {fs gs : List Function} (f : Function) → FunctionsMapped fs gs → FunctionsMapped (f ∷ fs) (f ∷ gs)
    mapped : {f g : Function} {fs gs : List Function} → Mapped f g → FunctionsMapped fs gs → FunctionsMapped (f ∷ fs) (g ∷ gs)

  -- places of both, in the same memory
  pub data Together (p : Place) (m : Heap) (q : Place) (m' : Heap) : Type 1 where
    alike : p ≡ q → m ≡ m' → Together p m q m'
    with_others : Stands ask_heap I p → place_to to p ≡ q → m ≡ m' → Together p m q m'

  module _ (fs fs' : List Function) where
    abbrev Same : Heap → Heap → Type 0
    Same m m' = m ≡ m'

    abbrev StepM : Step Place Heap → Step Place Heap → Type 1
    StepM = sim.StepMatch ask_heap ask_heap fs fs' Same Together

    abbrev SettledM : Step Place Heap → Step Place Heap → Type 1
    SettledM = sim.Settled ask_heap ask_heap fs fs' Same Together

    abbrev BeginM : Answer Spot → Answer Spot → Type 1
    BeginM = sim.BeginMatch ask_heap ask_heap fs fs' Same Together

    abbrev nothing : sim.Up ask_heap ask_heap fs fs' Same Together (Unit {0})
    nothing = record { down = tt }

    -- the same step in both
    self_stop : (e : Stop) (m : Heap) → sim.SettledStop ask_heap ask_heap fs fs' Same Together e m (Stops e m)
    self_stop Undefined m = nothing
    self_stop Outside m = nothing
    self_stop More m = record { memory = m; is = refl; worlds = refl }
    self_stop NoRoom m = record { memory = m; is = refl; worlds = refl }

    self_settled : (st : Step Place Heap) → SettledM st st
    self_settled (Goes p m) = record { place = p; memory = m; leads = sim.at_once; related = alike refl refl }
    self_settled (Calls f xs k rs p m) = nothing
    self_settled (Returns xs m) = nothing
    self_settled (Stops e m) = self_stop e m

    -- the step with other operands
    other_settled : (st : Step Place Heap) → SettledKeeps ask_heap I st → SettledM st (step_to to ask_heap st)
    other_settled (Goes p m) h = record { place = place_to to p; memory = m; leads = sim.at_once; related = with_others h refl refl }
    other_settled (Calls f xs k rs p m) h = nothing
    other_settled (Returns xs m) h = nothing
    other_settled (Stops e m) h = self_stop e m

    stop_on : (e : Stop) (m : Heap) (q : Place) (m' : Heap) → sim.Leads ask_heap (Goes q m') (Stops e m) → sim.StopMatch ask_heap ask_heap fs fs' Same Together e m (Goes q m')
    stop_on Undefined m q m' leads = nothing
    stop_on Outside m q m' leads = nothing
    stop_on More m q m' leads = record { memory = m; leads = leads; worlds = refl }
    stop_on NoRoom m q m' leads = record { memory = m; leads = leads; worlds = refl }

    self_step : (st : Step Place Heap) (q : Place) (m : Heap) → sim.Leads ask_heap (Goes q m) st → StepM st (Goes q m)
    self_step (Goes p m1) q m leads = record { place = p; memory = m1; leads = leads; related = alike refl refl }
    self_step (Calls f xs k rs p m1) q m leads = record {
      caller = record { goes_on = k; results = rs; place = p };
      memory = m1;
      leads = leads;
      worlds = refl;
      callers = λ ys m2 m2' is. subst (λ z. SettledM (within p.frames (performs ask_heap (k ys) rs p.spot m2)) (within p.frames (performs ask_heap (k ys) rs p.spot z))) is
          (self_settled (within p.frames (performs ask_heap (k ys) rs p.spot m2)));
    }
    self_step (Returns xs m1) q m leads = record { memory = m1; leads = leads; worlds = refl }
    self_step (Stops e m1) q m leads = stop_on e m1 q m leads

    other_step : (st : Step Place Heap) (q : Place) (m : Heap) → StepKeeps ask_heap I st → sim.Leads ask_heap (Goes q m) (step_to to ask_heap st) → StepM st (Goes q m)
    other_step (Goes p m1) q m h leads = record { place = place_to to p; memory = m1; leads = leads; related = with_others h refl refl }
    other_step (Calls f xs k rs p m1) q m h leads = record {
      caller = record { goes_on = k; results = rs; place = place_to to p };
      memory = m1;
      leads = leads;
      worlds = refl;
      callers = λ ys m2 m2' is.
          let st = within p.frames (performs ask_heap (k ys) rs p.spot m2) in
          subst (λ z. SettledM st (within (place_to to p).frames (performs ask_heap (k ys) rs (place_to to p).spot z))) is
          (subst (SettledM st) (sym (performs_to to ask_heap p.frames rs p.spot (k ys) m2)) (other_settled st (h ys m2)));
    }
    other_step (Returns xs m1) q m h leads = record { memory = m1; leads = leads; worlds = refl }
    other_step (Stops e m1) q m h leads = stop_on e m1 q m leads

    step_match : (p : Place) (m : Heap) (q : Place) (m' : Heap) → Together p m q m' → StepM (step ask_heap p m) (Goes q m')
    step_match p m q m' (alike place memory) =
        subst (λ x. StepM (step ask_heap p m) (Goes x m')) place
        (subst (λ z. StepM (step ask_heap p m) (Goes p z)) memory (self_step (step ask_heap p m) p m (sim.by_step sim.at_once)))
    step_match p m q m' (with_others stands place memory) =
        let st : Step Place Heap = step ask_heap p m in
        let is : step ask_heap (place_to to p) m ≡ step_to to ask_heap st = one_step_to to ask_heap p.spot.ops p.spot.blocks p.spot.env p.frames m (same_values p.spot.ops p.spot.blocks p.spot.env p.frames stands) in
        subst (λ x. StepM st (Goes x m')) place
        (subst (λ z. StepM st (Goes (place_to to p) z)) memory
        (other_step st (place_to to p) m (step_keeps ask_heap I closed p.spot.ops p.spot.blocks p.spot.env p.frames m stands)
        (subst (sim.Leads ask_heap (Goes (place_to to p) m)) is (sim.by_step sim.at_once))))

    worlds : (p : Place) (m : Heap) (q : Place) (m' : Heap) → Together p m q m' → m ≡ m'
    worlds p m q m' (alike place memory) = memory
    worlds p m q m' (with_others stands place memory) = memory

    -- Functions

    self_begin : (a : Answer Spot) → BeginM a a
    self_begin (Gives s) = record { spot = s; is = refl; related = λ m m' is. alike refl is }
    self_begin answer.Undefined = nothing
    self_begin answer.Outside = nothing

    self_body : (g : Function) (b : Blocks) → sim.BodyMatch ask_heap ask_heap fs fs' Same Together g g b b
    self_body g BlocksEnd = sim.both_external
    self_body g (Block l args ops more) = sim.both_inner (λ xs. self_begin (begins g xs))

    self_function : (g : Function) → sim.FunctionMatch ask_heap ask_heap fs fs' Same Together g g
    self_function g = record { name = refl; face = refl; bodies = self_body g g.body }

    abbrev begin_in : Blocks → Target → List Value → Answer Spot
    begin_in b t args = and_then (present (bind t.args args [])) (λ env. Gives (record { ops = t.ops; blocks = b; env = env }))

    module _ (l : ℕ) (args : List ℕ) (ops : Ops) (more : Blocks)
        (starts : (xs : List Value) (e : Env) → bind args xs [] ≡ Some e → I ops (Block l args ops more) e []) where
      bound_begin : (xs : List Value) (o : Option Env) → bind args xs [] ≡ o
          → BeginM (and_then (present o) (λ env. Gives (record { ops = ops; blocks = Block l args ops more; env = env })))
          (and_then (present o) (λ env. Gives (record { ops = ops_to to ops; blocks = Block l args (ops_to to ops) (blocks_to to more); env = env })))
      bound_begin xs None is = nothing
      bound_begin xs (Some e) is = record {
        spot = record { ops = ops_to to ops; blocks = Block l args (ops_to to ops) (blocks_to to more); env = e };
        is = refl;
        related = λ m m' same. with_others (starts xs e is) refl same;
      }

      gathered_begin : (a : Answer (List Value))
          → BeginM (and_then a (begin_in (Block l args ops more) (record { args = args; ops = ops }))) (and_then a (begin_in (Block l args (ops_to to ops) (blocks_to to more)) (record { args = args; ops = ops_to to ops })))
      gathered_begin (Gives xs) = bound_begin xs (bind args xs []) refl
      gathered_begin answer.Undefined = nothing
      gathered_begin answer.Outside = nothing

    other_body : (name name' : List ℕ) (face face' : Face) (shapes : Shapes) (b : Blocks) → ((t : Target) → entry b ≡ Some t → (xs : List Value) (e : Env) → bind t.args xs [] ≡ Some e → I t.ops b e [])
        → sim.BodyMatch ask_heap ask_heap fs fs' Same Together (record { name = name; face = face; shapes = shapes; body = b }) (record { name = name'; face = face'; shapes = shapes; body = blocks_to to b }) b (blocks_to to b)
    other_body name name' face face' shapes BlocksEnd starts = sim.both_external
    other_body name name' face face' shapes (Block l args ops more) starts =
        sim.both_inner (λ xs. gathered_begin l args ops more (λ ys e is. starts (record { args = args; ops = ops }) refl ys e is) (gathered shapes xs))

    other_function : (g g' : Function) → Mapped g g' → sim.FunctionMatch ask_heap ask_heap fs fs' Same Together g g'
    other_function g g' c = record {
      name = c.name;
      face = c.face;
      bodies =
          subst (λ z. sim.BodyMatch ask_heap ask_heap fs fs' Same Together g (record { name = g'.name; face = g'.face; shapes = g'.shapes; body = z }) g.body z) c.body
          (subst (λ z. sim.BodyMatch ask_heap ask_heap fs fs' Same Together g (record { name = g'.name; face = g'.face; shapes = z; body = blocks_to to g.body }) g.body (blocks_to to g.body)) c.shapes
          (other_body g.name g'.name g.face g'.face g.shapes g.body c.begins));
    }

    either_find : (c : Bool) (g g' : Function) (o o' : Option Function) → sim.FindMatch ask_heap ask_heap fs fs' Same Together (Some g) (Some g') → sim.FindMatch ask_heap ask_heap fs fs' Same Together o o'
        → sim.FindMatch ask_heap ask_heap fs fs' Same Together (if c then Some g else o) (if c then Some g' else o')
    either_find true g g' o o' h k = h
    either_find false g g' o o' h k = k

    find_match : {gs gs' : List Function} (name : List ℕ) → FunctionsMapped gs gs' → sim.FindMatch ask_heap ask_heap fs fs' Same Together (find_function name gs) (find_function name gs')
    find_match name ended = nothing
    find_match name (same {fs = gs} {gs = gs'} g more) =
        either_find (bytes_eq g.name name) g g (find_function name gs) (find_function name gs') (record { found = g; is = refl; match = self_function g }) (find_match name more)
    find_match name (mapped {f = g} {g = g'} {fs = gs} {gs = gs'} change more) =
        subst (λ x. sim.FindMatch ask_heap ask_heap fs fs' Same Together (if bytes_eq g.name name then Some g else find_function name gs) (if bytes_eq x name then Some g' else find_function name gs')) change.name
        (either_find (bytes_eq g.name name) g g' (find_function name gs) (find_function name gs') (record { found = g'; is = refl; match = other_function g g' change }) (find_match name more))

    simulates : FunctionsMapped fs fs' → sim.Simulates ask_heap ask_heap fs fs' Same Together
    simulates change = record { worlds = worlds; steps = step_match; functions = λ name. find_match name change }

    -- The functions agree.
    pub mapped_agree : FunctionsMapped fs fs' → AgreeFunctions fs fs'
    mapped_agree change = agree fs fs' Same (λ h k is. subst (λ z. z.need ≤ h.need) is (no_more h.need)) refl Together (simulates change)
      where
        no_more : (n : ℕ) → n ≤ n
        no_more n = omega arith
