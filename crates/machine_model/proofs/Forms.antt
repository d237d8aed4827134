-- The two forms of S come to the same: the run of a code inside others, with what waits outside, is the run of the machine.
use Rattle.std.proofs.Common.{◌≡◌, ℕ, zero, suc, ◌+◌, ◌*◌, ◌<◌, ◌≤◌, List, [], ◌∷◌, Bool, true, false, refl, sym, ap, ◌∙◌, arith}
use Rattle.number_model.specs.Answers.{Answer, Gives, present}
use Rattle.number_model.specs.Answers.{Answer as answer}
use Rattle.operation_model.specs.Values.{Value, Integer, number}
use Rattle.operation_model.specs.Pures.{truth}
use Rattle.operation_model.specs.Doings.{Doing, Question}
use Rattle.operation_model.specs.Forms.{Form, If, For, While, Switch, Execute, Yield, Condition}
use Rattle.operation_model.specs.Straight.{does}
use Rattle.form_model.specs.Codes.{Ops, OpsEnd, Op, Blocks, BlocksEnd, Block, Regions, region_at, Target, entry, Function, find_function, Env, lookups, bind}
use Rattle.machine_model.specs.Worlds.{Stop, Reply, World}
use Rattle.machine_model.specs.Machine.{Spot, Behind, Counting, Looping, Frame, Once, Body, Before, After, Place, Step, Goes, Calls, Returns, Stops, within, stepping, performs, enters, leaves, has_round, tested, turns, next_number, counts, case_of, enters_once, yields, decided, decides, first_if, acts, Caller, Outcome, with_memory, stopped, ending, settles, resumes, external, begins, at_top, calls_body, gives_back, follows, exec}
use Rattle.machine_model.specs.Structured.{Code, Ahead, Round, Again, Ran, Yields, Decides, Returned, Stopped, Runs, taking, on_yield, on_condition, on_return, into, behind, once, round, test, again, while, settle, resume, call, follow, means, ahead, deep, runs, outcome_of}
use Rattle.machine_model.proofs.Spending.{Spends, into_spends, deep_spends}

module _ {State : Type 0} (ask : Question → State → Reply State) (fs : List Function) where
  -- what a step comes to with so much fuel
  abbrev on : ℕ → Step Place State → List Caller → World State → Outcome State
  on n st cs w = follows ask fs (exec ask fs n) st cs w

  -- what a code that has run comes to, with the regions and calls that wait outside
  abbrev rejoins : Ran State → List Frame → List Caller → Outcome State
  rejoins (Yields xs env n w) frames cs = on n (yields xs env frames w.memory) cs w
  rejoins (Decides c xs env n w) frames cs = on n (decides c xs env frames w.memory) cs w
  rejoins (Returned xs n w) frames cs = gives_back ask (exec ask fs n) xs cs w
  rejoins (Stopped e w) frames cs = stopped e w

  -- what is run inside is the run of the machine, where it may go so deep
  record Joined (run : Runs State) (d : ℕ) : Type 0 where
    spends : (code : Code) (env : Env) (n : ℕ) (w : World State) → Spends (run code env n w) n
    ahead_is : (ops : Ops) (blocks : Blocks) (env : Env) (n : ℕ) (w : World State) (frames : List Frame) (cs : List Caller) → 2 * n + 1 ≤ d
        → rejoins (run (Ahead ops blocks) env n w) frames cs ≡ exec ask fs n (record { spot = record { ops = ops; blocks = blocks; env = env }; frames = frames }) cs w
    round_is : (c : Counting) (i : ℕ) (xs : List Value) (b : Behind) (env : Env) (n : ℕ) (w : World State) (frames : List Frame) (cs : List Caller) → 2 * n + 2 ≤ d
        → rejoins (run (Round c i xs b) env n w) frames cs ≡ on n (turns c i xs b env frames w.memory) cs w
    again_is : (l : Looping) (xs : List Value) (b : Behind) (env : Env) (n : ℕ) (w : World State) (frames : List Frame) (cs : List Caller) → 2 * n + 2 ≤ d
        → rejoins (run (Again l xs b) env n w) frames cs ≡ on n (enters l.before xs env (Before l b ∷ frames) w.memory) cs w

  -- going on with what was given
  taking_is : {A : Type 0} (a : Answer A) (w : World State) (next : A → Ran State) (st : A → Step Place State) (n : ℕ) (frames : List Frame) (cs : List Caller)
      → ((x : A) → rejoins (next x) frames cs ≡ on n (st x) cs w)
      → rejoins (taking a w next) frames cs ≡ on n (stepping a w.memory st) cs w
  taking_is (Gives x) w next st n frames cs h = h x
  taking_is answer.Undefined w next st n frames cs h = refl
  taking_is answer.Outside w next st n frames cs h = refl

  ending_is : {A : Type 0} (a : Answer A) (w : World State) (next : A → Ran State) (out : A → Outcome State) (frames : List Frame) (cs : List Caller)
      → ((x : A) → rejoins (next x) frames cs ≡ out x) → rejoins (taking a w next) frames cs ≡ ending a w out
  ending_is (Gives x) w next out frames cs h = h x
  ending_is answer.Undefined w next out frames cs h = refl
  ending_is answer.Outside w next out frames cs h = refl

  -- a region that waits for values
  yield_is : (r : Ran State) (next : List Value → Env → ℕ → World State → Ran State) (f : Frame) (n : ℕ) (frames : List Frame) (cs : List Caller) → Spends r n
      → ((xs : List Value) (env : Env) (m : ℕ) (w : World State) → m < n → rejoins (next xs env m w) frames cs ≡ on m (yields xs env (f ∷ frames) w.memory) cs w)
      → ((c : Value) (xs : List Value) (env : Env) (m : State) → Stops Stop.Outside m ≡ decides c xs env (f ∷ frames) m)
      → rejoins (on_yield r next) frames cs ≡ rejoins r (f ∷ frames) cs
  yield_is (Yields xs env m w) next f n frames cs s h none = h xs env m w s
  yield_is (Decides c xs env m w) next f n frames cs s h none = ap (λ st. on m st cs w) (none c xs env w.memory)
  yield_is (Returned xs m w) next f n frames cs s h none = refl
  yield_is (Stopped e w) next f n frames cs s h none = refl

  -- a region that waits for a condition
  condition_is : (r : Ran State) (next : Value → List Value → Env → ℕ → World State → Ran State) (l : Looping) (b : Behind) (n : ℕ) (frames : List Frame) (cs : List Caller) → Spends r n
      → ((c : Value) (xs : List Value) (env : Env) (m : ℕ) (w : World State) → m < n → rejoins (next c xs env m w) frames cs ≡ on m (decides c xs env (Before l b ∷ frames) w.memory) cs w)
      → rejoins (on_condition r next) frames cs ≡ rejoins r (Before l b ∷ frames) cs
  condition_is (Yields xs env m w) next l b n frames cs s h = refl
  condition_is (Decides c xs env m w) next l b n frames cs s h = h c xs env m w s
  condition_is (Returned xs m w) next l b n frames cs s h = refl
  condition_is (Stopped e w) next l b n frames cs s h = refl

  -- a call that waits for what is returned
  return_is : (r : Ran State) (next : List Value → ℕ → World State → Ran State) (n : ℕ) (frames : List Frame) (c : Caller) (cs : List Caller) → Spends r n
      → ((xs : List Value) (m : ℕ) (w : World State) → m < n → rejoins (next xs m w) frames cs ≡ gives_back ask (exec ask fs m) xs (c ∷ cs) w)
      → rejoins (on_return r next) frames cs ≡ rejoins r [] (c ∷ cs)
  return_is (Yields xs env m w) next n frames c cs s h = refl
  return_is (Decides x xs env m w) next n frames c cs s h = refl
  return_is (Returned xs m w) next n frames c cs s h = h xs m w s
  return_is (Stopped e w) next n frames c cs s h = refl

  module _ (run : Runs State) (d : ℕ) (joined : Joined run d) where
    into_is : (r : Blocks) (xs : List Value) (env : Env) (n : ℕ) (w : World State) (frames : List Frame) (cs : List Caller) → 2 * n + 1 ≤ d
        → rejoins (into run r xs env n w) frames cs ≡ on n (enters r xs env frames w.memory) cs w
    into_is r xs env n w frames cs le =
        taking_is (present (entry r)) w _ _ n frames cs (λ t.
        taking_is (present (bind t.args xs env)) w _ _ n frames cs (λ inner. joined.ahead_is t.ops r inner n w frames cs le))

    behind_is : (b : Behind) (xs : List Value) (env : Env) (n : ℕ) (w : World State) (frames : List Frame) (cs : List Caller) → 2 * n + 1 ≤ d
        → rejoins (behind run b xs env n w) frames cs ≡ on n (leaves b xs env frames w.memory) cs w
    behind_is b xs env n w frames cs le =
        taking_is (present (bind b.results xs env)) w _ _ n frames cs (λ outer. joined.ahead_is b.rest b.blocks outer n w frames cs le)

    once_is : (r : Blocks) (b : Behind) (env : Env) (n : ℕ) (w : World State) (frames : List Frame) (cs : List Caller) → 2 * n + 1 ≤ d
        → rejoins (once run r b env n w) frames cs ≡ on n (enters_once r b env frames w.memory) cs w
    once_is BlocksEnd b env n w frames cs le = behind_is b [] env n w frames cs le
    once_is (Block l args ops more) b env n w frames cs le =
        yield_is (into run (Block l args ops more) [] env n w) (behind run b) (Once b) n frames cs (into_spends ask fs run joined.spends (Block l args ops more) [] env n w)
        (λ xs env1 m w1 lt. behind_is b xs env1 m w1 frames cs (omega arith)) (λ c xs env1 m. refl)
        ∙ into_is (Block l args ops more) [] env n w (Once b ∷ frames) cs le

    round_goes : (goes : Bool) (t : Target) (c : Counting) (i : ℕ) (xs : List Value) (b : Behind) (env : Env) (n : ℕ) (w : World State) (frames : List Frame) (cs : List Caller) → 2 * n + 1 ≤ d
        → rejoins (round run goes t c i xs b env n w) frames cs ≡ on n (tested goes t c i xs b env frames w.memory) cs w
    round_goes true t c i xs b env n w frames cs le =
        yield_is (run (Ahead t.ops c.body) env n w) _ (Body c i b) n frames cs (joined.spends (Ahead t.ops c.body) env n w)
        (λ ys env1 m w1 lt. taking_is (next_number c i) w1 _ _ m frames cs (λ k. joined.round_is c k ys b env1 m w1 frames cs (omega arith))) (λ x ys env1 m. refl)
        ∙ joined.ahead_is t.ops c.body env n w (Body c i b ∷ frames) cs le
    round_goes false t c i xs b env n w frames cs le = behind_is b xs env n w frames cs le

    test_is : (c : Counting) (i : ℕ) (xs : List Value) (b : Behind) (env : Env) (n : ℕ) (w : World State) (frames : List Frame) (cs : List Caller) → 2 * n + 1 ≤ d
        → rejoins (test run c i xs b env n w) frames cs ≡ on n (turns c i xs b env frames w.memory) cs w
    test_is c i xs b env n w frames cs le =
        taking_is (present (entry c.body)) w _ _ n frames cs (λ t.
        taking_is (present (bind t.args (Integer i ∷ xs) env)) w _ _ n frames cs (λ inner.
        round_goes (has_round c i) t c i xs b inner n w frames cs le))

    again_goes : (holds : Bool) (l : Looping) (xs : List Value) (b : Behind) (env : Env) (n : ℕ) (w : World State) (frames : List Frame) (cs : List Caller) → 2 * n + 1 ≤ d
        → rejoins (again run holds l xs b env n w) frames cs ≡ on n (decided holds l xs b env frames w.memory) cs w
    again_goes true l xs b env n w frames cs le =
        yield_is (into run l.after xs env n w) _ (After l b) n frames cs (into_spends ask fs run joined.spends l.after xs env n w)
        (λ ys env1 m w1 lt. joined.again_is l ys b env1 m w1 frames cs (omega arith)) (λ x ys env1 m. refl)
        ∙ into_is l.after xs env n w (After l b ∷ frames) cs le
    again_goes false l xs b env n w frames cs le = behind_is b xs env n w frames cs le

    while_is : (l : Looping) (xs : List Value) (b : Behind) (env : Env) (n : ℕ) (w : World State) (frames : List Frame) (cs : List Caller) → 2 * n + 1 ≤ d
        → rejoins (while run l xs b env n w) frames cs ≡ on n (enters l.before xs env (Before l b ∷ frames) w.memory) cs w
    while_is l xs b env n w frames cs le =
        condition_is (into run l.before xs env n w) _ l b n frames cs (into_spends ask fs run joined.spends l.before xs env n w)
        (λ c ys env1 m w1 lt. taking_is (truth c) w1 _ _ m frames cs (λ holds. again_goes holds l ys b env1 m w1 frames cs (omega arith)))
        ∙ into_is l.before xs env n w (Before l b ∷ frames) cs le

    settle_is : (st : Step Spot State) (n : ℕ) (w : World State) (frames : List Frame) (cs : List Caller) → 2 * n + 1 ≤ d
        → rejoins (settle run st n w) frames cs ≡ settles (exec ask fs n) (within frames st) cs w
    settle_is (Goes s m) n w frames cs le = joined.ahead_is s.ops s.blocks s.env n (with_memory w m) frames cs le
    settle_is (Calls f xs k rs s m) n w frames cs le = refl
    settle_is (Returns xs m) n w frames cs le = refl
    settle_is (Stops e m) n w frames cs le = refl

    resume_is : (what : Doing) (rs : List ℕ) (s : Spot) (n : ℕ) (w : World State) (frames : List Frame) (cs : List Caller) → 2 * n + 1 ≤ d
        → rejoins (resume ask run what rs s n w) frames cs ≡ resumes ask (exec ask fs n) what rs (record { spot = s; frames = frames }) cs w
    resume_is what rs s n w frames cs le = settle_is (performs ask what rs s w.memory) n w frames cs le

    call_is : (body : Blocks) (f : Function) (xs : List Value) (k : List Value → Doing) (rs : List ℕ) (s : Spot) (n : ℕ) (w : World State) (frames : List Frame) (cs : List Caller) → 2 * n + 1 ≤ d
        → rejoins (call ask run body f xs k rs s n w) frames cs
        ≡ calls_body ask (exec ask fs n) body f xs (record { goes_on = k; results = rs; place = record { spot = s; frames = frames } }) cs w
    call_is BlocksEnd f xs k rs s n w frames cs le =
        ending_is (external f xs w) w _ _ frames cs (λ told. resume_is (k told.values) rs s n told.world frames cs le)
    call_is (Block l args ops more) f xs k rs s n w frames cs le =
        ending_is (begins f xs) w _ _ frames cs (λ start.
        return_is (run (Ahead start.ops start.blocks) start.env n w) _ n frames (record { goes_on = k; results = rs; place = record { spot = s; frames = frames } }) cs
        (joined.spends (Ahead start.ops start.blocks) start.env n w) (λ ys m w1 lt. resume_is (k ys) rs s m w1 frames cs (omega arith))
        ∙ joined.ahead_is start.ops start.blocks start.env n w [] _ le)

    follow_is : (st : Step Spot State) (n : ℕ) (w : World State) (frames : List Frame) (cs : List Caller) → 2 * n + 1 ≤ d
        → rejoins (follow ask fs run st n w) frames cs ≡ on n (within frames st) cs w
    follow_is (Goes s m) n w frames cs le = joined.ahead_is s.ops s.blocks s.env n (with_memory w m) frames cs le
    follow_is (Calls f xs k rs s m) n w frames cs le =
        ending_is (present (find_function f fs)) (with_memory w m) _ _ frames cs (λ g. call_is g.body g xs k rs s n (with_memory w m) frames cs le)
    follow_is (Returns xs m) n w frames cs le = refl
    follow_is (Stops e m) n w frames cs le = refl

    means_is : (form : Form) (rs : List ℕ) (xs : List Value) (ls : List ℕ) (held : Regions) (b : Behind) (env : Env) (n : ℕ) (w : World State) (frames : List Frame) (cs : List Caller) → 2 * n + 2 ≤ d
        → rejoins (means ask fs run form rs xs ls held b env n w) frames cs ≡ on n (acts ask form rs xs ls held b env frames w.memory) cs w
    means_is If rs (c ∷ []) ls held b env n w frames cs le =
        taking_is (truth c) w _ _ n frames cs (λ holds. once_is (region_at (first_if holds) held) b env n w frames cs (omega arith))
    means_is (For width) rs (x ∷ y ∷ z ∷ xs) ls held b env n w frames cs le =
        taking_is (counts width x y z (region_at 0 held)) w _ _ n frames cs (λ start. joined.round_is start.1 start.0 xs b env n w frames cs le)
    means_is While rs xs ls held b env n w frames cs le = joined.again_is _ xs b env n w frames cs le
    means_is (Switch width cases) rs (x ∷ []) ls held b env n w frames cs le =
        taking_is (number x) w _ _ n frames cs (λ k. once_is (region_at (case_of width k 1 cases) held) b env n w frames cs (omega arith))
    means_is Execute rs [] ls held b env n w frames cs le =
        yield_is (into run (region_at 0 held) [] env n w) (behind run b) (Once b) n frames cs (into_spends ask fs run joined.spends (region_at 0 held) [] env n w)
        (λ ys env1 m w1 lt. behind_is b ys env1 m w1 frames cs (omega arith)) (λ c ys env1 m. refl)
        ∙ into_is (region_at 0 held) [] env n w (Once b ∷ frames) cs (omega arith)
    means_is Yield rs xs ls held b env n w frames cs le = refl
    means_is Condition rs (c ∷ xs) ls held b env n w frames cs le = refl
    means_is form rs xs ls held b env n w frames cs le =
        follow_is (performs ask (does form ls xs) rs (record { ops = b.rest; blocks = b.blocks; env = env }) w.memory) n w frames cs (omega arith)

    ahead_goes : (ops : Ops) (blocks : Blocks) (env : Env) (n : ℕ) (w : World State) (frames : List Frame) (cs : List Caller) → 2 * n + 1 ≤ suc d
        → rejoins (ahead ask fs run ops blocks env n w) frames cs ≡ exec ask fs n (record { spot = record { ops = ops; blocks = blocks; env = env }; frames = frames }) cs w
    ahead_goes ops blocks env zero w frames cs le = refl
    ahead_goes OpsEnd blocks env (suc n) w frames cs le = refl
    ahead_goes (Op form rs os ls held rest) blocks env (suc n) w frames cs le =
        taking_is (present (lookups os env)) w _ _ n frames cs (λ xs.
        means_is form rs xs ls held (record { results = rs; rest = rest; blocks = blocks }) env n w frames cs (omega arith))

  joins : (d : ℕ) → Joined (deep ask fs d) d
  joins zero = record {
    spends = deep_spends ask fs zero;
    ahead_is = λ ops blocks env n w frames cs le. absurd (none n le);
    round_is = λ c i xs b env n w frames cs le. absurd (none_again n le);
    again_is = λ l xs b env n w frames cs le. absurd (none_again n le);
  }
    where
      none : (n : ℕ) → 2 * n + 1 ≤ 0 → ⊥
      none n le = omega arith

      none_again : (n : ℕ) → 2 * n + 2 ≤ 0 → ⊥
      none_again n le = omega arith
  joins (suc d) = go (joins d)
    where
      go : Joined (deep ask fs d) d → Joined (deep ask fs (suc d)) (suc d)
      go joined = record {
        spends = deep_spends ask fs (suc d);
        ahead_is = λ ops blocks env n w frames cs le. ahead_goes (deep ask fs d) d joined ops blocks env n w frames cs le;
        round_is = λ c i xs b env n w frames cs le. test_is (deep ask fs d) d joined c i xs b env n w frames cs (omega arith);
        again_is = λ l xs b env n w frames cs le. while_is (deep ask fs d) d joined l xs b env n w frames cs (omega arith);
      }

  -- a whole function
  whole : (r : Ran State) → rejoins r [] [] ≡ outcome_of r
  whole (Yields xs env n w) = refl
  whole (Decides c xs env n w) = refl
  whole (Returned xs n w) = refl
  whole (Stopped e w) = refl

  pub same_outcome : (s : Spot) (n : ℕ) (w : World State) → outcome_of (runs ask fs s.ops s.blocks s.env n w) ≡ exec ask fs n (at_top s) [] w
  same_outcome s n w = sym (whole (runs ask fs s.ops s.blocks s.env n w)) ∙ (joins (2 * n + 1)).ahead_is s.ops s.blocks s.env n w [] [] (omega arith)
