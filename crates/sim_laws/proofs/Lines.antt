-- Operations one after another: what they do with values by their numbers, and that the machine does so.
use Rattle.std.proofs.Common.{◌≡◌, ◌⊎◌, inl, inr, ℕ, List, [], ◌∷◌, Option, Some, None, refl, sym, subst}
use Rattle.number_model.specs.Answers.{present}
use Rattle.operation_model.specs.Values.{Value}
use Rattle.operation_model.specs.Doings.{Doing, Ends, Asks, Jumps, Question}
use Rattle.operation_model.specs.Doings.{Doing as doing}
use Rattle.operation_model.specs.Forms.{Form, If, For, While, Switch, Execute, Yield, Condition}
use Rattle.operation_model.specs.Straight.{does}
use Rattle.form_model.specs.Codes.{Ops, OpsEnd, Op, Blocks, Regions, RegionsEnd, Env, find_block, lookups, bind}
use Rattle.machine_model.specs.Worlds.{Reply, Answers}
use Rattle.machine_model.specs.Machine.{Spot, Behind, Frame, Place, Step, Goes, Calls, Returns, acts, at_block, on_reply, performs, step, stepping, within}
use Rattle.sim_laws.proofs.Simulation.{Leads, at_once, by_step}

-- an operation without regions: its form, results, operands and labels
pub record Line : Type 0 where
  pub form : Form
  pub results : List ℕ
  pub operands : List ℕ
  pub labels : List ℕ

-- operations in front of others
abbrev pub in_front : List Line → Ops → Ops
in_front [] rest = rest
in_front (x ∷ xs) rest = Op x.form x.results x.operands x.labels RegionsEnd (in_front xs rest)

-- what a list of operations comes to: it is over, with these values, or it asks, calls, jumps or returns, or is stuck
pub data Run : Type 0 where
  Ended : Env → Run
  Asked : Question → (List Value → Run) → Run
  Called : List ℕ → List Value → (List Value → Run) → Run
  Jumped : ℕ → List Value → Env → Run
  Returned : List Value → Run
  Stuck : Run

abbrev pub with_env : Option Env → (Env → Run) → Run
with_env None next = Stuck
with_env (Some env) next = next env

-- behind a call: an operation makes one call at most
abbrev pub settled_run : Doing → List ℕ → Env → (Env → Run) → Run
settled_run (Ends ys) rs env next = with_env (bind rs ys env) next
settled_run (Asks q k) rs env next = Asked q (λ ys. settled_run (k ys) rs env next)
settled_run (doing.Calls f xs k) rs env next = Stuck
settled_run (Jumps l ys) rs env next = Jumped l ys env
settled_run (doing.Returns ys) rs env next = Stuck
settled_run doing.Undefined rs env next = Stuck
settled_run doing.Outside rs env next = Stuck

-- one operation's doing with these results, and what follows
abbrev pub doing_run : Doing → List ℕ → Env → (Env → Run) → Run
doing_run (Ends ys) rs env next = with_env (bind rs ys env) next
doing_run (Asks q k) rs env next = Asked q (λ ys. doing_run (k ys) rs env next)
doing_run (doing.Calls f xs k) rs env next = Called f xs (λ ys. settled_run (k ys) rs env next)
doing_run (Jumps l ys) rs env next = Jumped l ys env
doing_run (doing.Returns ys) rs env next = Returned ys
doing_run doing.Undefined rs env next = Stuck
doing_run doing.Outside rs env next = Stuck

abbrev pub with_values : Option (List Value) → (List Value → Run) → Run
with_values None next = Stuck
with_values (Some vs) next = next vs

abbrev pub line_run : List Line → Env → Run
line_run [] env = Ended env
line_run (x ∷ xs) env = with_values (lookups x.operands env) (λ vs. doing_run (does x.form x.labels vs) x.results env (line_run xs))

-- The machine

-- operations with regions, and the ends of these
abbrev pub IsStructured : Form → Type 0
IsStructured If = Unit {0}
IsStructured (For w) = Unit {0}
IsStructured While = Unit {0}
IsStructured (Switch w cases) = Unit {0}
IsStructured Execute = Unit {0}
IsStructured Yield = Unit {0}
IsStructured Condition = Unit {0}
IsStructured _ = ⊥

module _ {State : Type 0} (ask : Question → State → Reply State) where
  -- an operation of another form only does
  pub acts_does : (form : Form) (rs : List ℕ) (xs : List Value) (ls : List ℕ) (regions : Regions) (b : Behind) (env : Env) (frames : List Frame) (m : State)
      → (acts ask form rs xs ls regions b env frames m ≡ within frames (performs ask (does form ls xs) rs (record { ops = b.rest; blocks = b.blocks; env = env }) m)) ⊎ IsStructured form
  acts_does If rs xs ls regions b env frames m = inr tt
  acts_does (For w) rs xs ls regions b env frames m = inr tt
  acts_does While rs xs ls regions b env frames m = inr tt
  acts_does (Switch w cases) rs xs ls regions b env frames m = inr tt
  acts_does Execute rs xs ls regions b env frames m = inr tt
  acts_does Yield rs xs ls regions b env frames m = inr tt
  acts_does Condition rs xs ls regions b env frames m = inr tt
  acts_does form rs xs ls regions b env frames m = inl refl

  structured_outside : (form : Form) (ls : List ℕ) (xs : List Value) → IsStructured form → does form ls xs ≡ doing.Outside
  structured_outside If ls xs s = refl
  structured_outside (For w) ls xs s = refl
  structured_outside While ls xs s = refl
  structured_outside (Switch w cases) ls xs s = refl
  structured_outside Execute ls xs s = refl
  structured_outside Yield ls xs s = refl
  structured_outside Condition ls xs s = refl
  structured_outside form ls xs s = absurd s

  -- a jump from there
  abbrev pub jump_step : ℕ → List Value → Env → Blocks → List Frame → State → Step Place State
  jump_step l ys env blocks frames m = within frames (stepping (present (find_block l blocks)) m (at_block ys (record { ops = OpsEnd; blocks = blocks; env = env }) m))

  -- Where a line stands in front of others, in these blocks and regions, steps play what it comes to.
  module _ (rest : Ops) (blocks : Blocks) (frames : List Frame) where
    abbrev pub place_at : List Line → Env → Place
    place_at xs env = record { spot = record { ops = in_front xs rest; blocks = blocks; env = env }; frames = frames }

    -- where a call stands
    pub record CallsAt (f : List ℕ) (xs : List Value) (Then : (List Value → State → Step Place State) → Type 0) (m : State) (st : Step Place State) : Type 0 where
      pub goes_on : List Value → Doing
      pub results : List ℕ
      pub place : Place
      pub leads : Leads ask st (Calls f xs goes_on results place m)
      pub behind : Then (λ ys m1. within place.frames (performs ask (goes_on ys) results place.spot m1))

    abbrev pub Plays : Run → State → Step Place State → Type 0
    Plays (Ended env) m st = Leads ask st (Goes (place_at [] env) m)
    Plays (Asked q k) m st = (ys : List Value) (m1 : State) → ask q m ≡ Answers ys m1 → Plays (k ys) m1 st
    Plays (Called f xs k) m st = CallsAt f xs (λ next. (ys : List Value) (m1 : State) → Plays (k ys) m1 (next ys m1)) m st
    Plays (Jumped l ys env) m st = Leads ask st (jump_step l ys env blocks frames m)
    Plays (Returned ys) m st = Leads ask st (Returns ys m)
    Plays Stuck m st = Unit {0}

    plays_step : (r : Run) (p : Place) (m m0 : State) → Plays r m (step ask p m0) → Plays r m (Goes p m0)
    plays_step (Ended env) p m m0 h = by_step h
    plays_step (Asked q k) p m m0 h = λ ys m1 is. plays_step (k ys) p m1 m0 (h ys m1 is)
    plays_step (Called f xs k) p m m0 h = record { goes_on = h.goes_on; results = h.results; place = h.place; leads = by_step h.leads; behind = h.behind }
    plays_step (Jumped l ys env) p m m0 h = by_step h
    plays_step (Returned ys) p m m0 h = by_step h
    plays_step Stuck p m m0 h = tt

    module _ (xs : List Line) (rs : List ℕ) (env : Env) (next : Env → Run) (next_plays : (e : Env) (m : State) → Plays (next e) m (Goes (place_at xs e) m)) where
      abbrev spot : Spot
      spot = record { ops = in_front xs rest; blocks = blocks; env = env }

      ends_plays : (ys : List Value) (m : State) (o : Option Env) → Plays (with_env o next) m (within frames (stepping (present o) m (λ e. Goes (record { ops = in_front xs rest; blocks = blocks; env = e }) m)))
      ends_plays ys m None = tt
      ends_plays ys m (Some e) = next_plays e m

      settled_plays : (d : Doing) (m : State) → Plays (settled_run d rs env next) m (within frames (performs ask d rs spot m))
      settled_plays (Ends ys) m = ends_plays ys m (bind rs ys env)
      settled_plays (Asks q k) m = λ ys m1 is. subst (λ r. Plays (settled_run (k ys) rs env next) m1 (within frames (on_reply m r (λ zs m2. performs ask (k zs) rs spot m2)))) (sym is) (settled_plays (k ys) m1)
      settled_plays (doing.Calls f zs k) m = tt
      settled_plays (Jumps l ys) m = at_once
      settled_plays (doing.Returns ys) m = tt
      settled_plays doing.Undefined m = tt
      settled_plays doing.Outside m = tt

      pub doing_plays : (d : Doing) (m : State) → Plays (doing_run d rs env next) m (within frames (performs ask d rs spot m))
      doing_plays (Ends ys) m = ends_plays ys m (bind rs ys env)
      doing_plays (Asks q k) m = λ ys m1 is. subst (λ r. Plays (doing_run (k ys) rs env next) m1 (within frames (on_reply m r (λ zs m2. performs ask (k zs) rs spot m2)))) (sym is) (doing_plays (k ys) m1)
      doing_plays (doing.Calls f zs k) m = record {
        goes_on = k;
        results = rs;
        place = record { spot = spot; frames = frames };
        leads = at_once;
        behind = λ ys m1. settled_plays (k ys) m1;
      }
      doing_plays (Jumps l ys) m = at_once
      doing_plays (doing.Returns ys) m = at_once
      doing_plays doing.Undefined m = tt
      doing_plays doing.Outside m = tt

    pub line_plays : (xs : List Line) (env : Env) (m : State) → Plays (line_run xs env) m (Goes (place_at xs env) m)
    line_plays [] env m = at_once
    line_plays (x ∷ xs) env m = plays_step (line_run (x ∷ xs) env) (place_at (x ∷ xs) env) m m (by_values (line_plays xs) (lookups x.operands env))
      where
        by_form : ((e : Env) (m1 : State) → Plays (line_run xs e) m1 (Goes (place_at xs e) m1)) → (vs : List Value)
            → (acts ask x.form x.results vs x.labels RegionsEnd (record { results = x.results; rest = in_front xs rest; blocks = blocks }) env frames m
            ≡ within frames (performs ask (does x.form x.labels vs) x.results (record { ops = in_front xs rest; blocks = blocks; env = env }) m)) ⊎ IsStructured x.form
            → Plays (doing_run (does x.form x.labels vs) x.results env (line_run xs)) m (acts ask x.form x.results vs x.labels RegionsEnd (record { results = x.results; rest = in_front xs rest; blocks = blocks }) env frames m)
        by_form again vs (inl is) = subst (Plays (doing_run (does x.form x.labels vs) x.results env (line_run xs)) m) (sym is) (doing_plays xs x.results env (line_run xs) again (does x.form x.labels vs) m)
        by_form again vs (inr s) = subst (λ d. Plays (doing_run d x.results env (line_run xs)) m (acts ask x.form x.results vs x.labels RegionsEnd (record { results = x.results; rest = in_front xs rest; blocks = blocks }) env frames m)) (sym (structured_outside x.form x.labels vs s)) tt

        by_values : ((e : Env) (m1 : State) → Plays (line_run xs e) m1 (Goes (place_at xs e) m1)) → (o : Option (List Value)) → Plays (with_values o (λ vs. doing_run (does x.form x.labels vs) x.results env (line_run xs))) m
            (stepping (present o) m (λ vs. acts ask x.form x.results vs x.labels RegionsEnd (record { results = x.results; rest = in_front xs rest; blocks = blocks }) env frames m))
        by_values again None = tt
        by_values again (Some vs) = by_form again vs (acts_does x.form x.results vs x.labels RegionsEnd (record { results = x.results; rest = in_front xs rest; blocks = blocks }) env frames m)
