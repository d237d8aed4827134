-- The structured meaning spends fuel: what is left behind a code is less than before it.
use Rattle.std.proofs.Common.{ℕ, zero, suc, ◌<◌, ◌≤◌, List, [], ◌∷◌, Bool, true, false, arith}
use Rattle.number_model.specs.Answers.{Answer, Gives, present}
use Rattle.number_model.specs.Answers.{Answer as answer}
use Rattle.operation_model.specs.Values.{Value, Integer, number}
use Rattle.operation_model.specs.Pures.{truth}
use Rattle.operation_model.specs.Doings.{Doing, Question}
use Rattle.operation_model.specs.Forms.{Form, If, For, While, Switch, Execute, Yield, Condition}
use Rattle.operation_model.specs.Straight.{does}
use Rattle.form_model.specs.Codes.{Ops, OpsEnd, Op, Blocks, BlocksEnd, Block, Regions, region_at, Target, entry, Function, find_function, Env, lookups, bind}
use Rattle.machine_model.specs.Worlds.{Reply, World}
use Rattle.machine_model.specs.Machine.{Spot, Behind, Counting, Looping, Step, Goes, Calls, Returns, Stops, performs, has_round, next_number, counts, case_of, first_if, begins, external}
use Rattle.machine_model.specs.Structured.{Code, Ahead, Round, Again, Ran, Yields, Decides, Returned, Stopped, Runs, taking, on_yield, on_condition, on_return, into, behind, once, round, test, again, while, settle, resume, call, follow, means, ahead, run_code, deep}

-- less than n units are left
abbrev pub Spends : {State : Type 0} → Ran State → ℕ → Type 0
Spends (Yields xs env m w) n = m < n
Spends (Decides c xs env m w) n = m < n
Spends (Returned xs m w) n = m < n
Spends (Stopped e w) n = Unit {0}

module _ {State : Type 0} where
  weaker : (r : Ran State) {m n : ℕ} → Spends r m → m ≤ n → Spends r n
  weaker (Yields xs env k w) h le = omega arith
  weaker (Decides c xs env k w) h le = omega arith
  weaker (Returned xs k w) h le = omega arith
  weaker (Stopped e w) h le = tt

  pub taking_spends : {A : Type 0} (a : Answer A) (w : World State) (next : A → Ran State) (n : ℕ) → ((x : A) → Spends (next x) n) → Spends (taking a w next) n
  taking_spends (Gives x) w next n h = h x
  taking_spends answer.Undefined w next n h = tt
  taking_spends answer.Outside w next n h = tt

  yield_spends : (r : Ran State) (next : List Value → Env → ℕ → World State → Ran State) (n : ℕ) → Spends r n
      → ((xs : List Value) (env : Env) (m : ℕ) (w : World State) → m < n → Spends (next xs env m w) n) → Spends (on_yield r next) n
  yield_spends (Yields xs env m w) next n s h = h xs env m w s
  yield_spends (Decides c xs env m w) next n s h = tt
  yield_spends (Returned xs m w) next n s h = s
  yield_spends (Stopped e w) next n s h = tt

  condition_spends : (r : Ran State) (next : Value → List Value → Env → ℕ → World State → Ran State) (n : ℕ) → Spends r n
      → ((c : Value) (xs : List Value) (env : Env) (m : ℕ) (w : World State) → m < n → Spends (next c xs env m w) n) → Spends (on_condition r next) n
  condition_spends (Yields xs env m w) next n s h = tt
  condition_spends (Decides c xs env m w) next n s h = h c xs env m w s
  condition_spends (Returned xs m w) next n s h = s
  condition_spends (Stopped e w) next n s h = tt

  return_spends : (r : Ran State) (next : List Value → ℕ → World State → Ran State) (n : ℕ) → Spends r n
      → ((xs : List Value) (m : ℕ) (w : World State) → m < n → Spends (next xs m w) n) → Spends (on_return r next) n
  return_spends (Yields xs env m w) next n s h = tt
  return_spends (Decides c xs env m w) next n s h = tt
  return_spends (Returned xs m w) next n s h = h xs m w s
  return_spends (Stopped e w) next n s h = tt

-- where what is inside spends, so do the parts of an operation
module _ {State : Type 0} (ask : Question → State → Reply State) (fs : List Function) (run : Runs State)
    (spends : (code : Code) (env : Env) (n : ℕ) (w : World State) → Spends (run code env n w) n) where
  -- a part that begins with less
  later : (code : Code) (env : Env) (m : ℕ) (w : World State) (n : ℕ) → m < n → Spends (run code env m w) n
  later code env m w n lt = weaker (run code env m w) (spends code env m w) (omega arith)

  pub into_spends : (b : Blocks) (xs : List Value) (env : Env) (n : ℕ) (w : World State) → Spends (into run b xs env n w) n
  into_spends b xs env n w =
      taking_spends (present (entry b)) w _ n (λ t. taking_spends (present (bind t.args xs env)) w _ n (λ inner. spends (Ahead t.ops b) inner n w))

  pub behind_spends : (b : Behind) (xs : List Value) (env : Env) (n : ℕ) (w : World State) → Spends (behind run b xs env n w) n
  behind_spends b xs env n w = taking_spends (present (bind b.results xs env)) w _ n (λ outer. spends (Ahead b.rest b.blocks) outer n w)

  behind_later : (b : Behind) (xs : List Value) (env : Env) (m : ℕ) (w : World State) (n : ℕ) → m < n → Spends (behind run b xs env m w) n
  behind_later b xs env m w n lt = weaker (behind run b xs env m w) (behind_spends b xs env m w) (omega arith)

  once_spends : (r : Blocks) (b : Behind) (env : Env) (n : ℕ) (w : World State) → Spends (once run r b env n w) n
  once_spends BlocksEnd b env n w = behind_spends b [] env n w
  once_spends (Block l args ops more) b env n w =
      yield_spends (into run (Block l args ops more) [] env n w) (behind run b) n (into_spends (Block l args ops more) [] env n w)
      (λ xs env1 m w1 lt. behind_later b xs env1 m w1 n lt)

  round_spends : (goes : Bool) (t : Target) (c : Counting) (i : ℕ) (xs : List Value) (b : Behind) (env : Env) (n : ℕ) (w : World State)
      → Spends (round run goes t c i xs b env n w) n
  round_spends true t c i xs b env n w =
      yield_spends (run (Ahead t.ops c.body) env n w) _ n (spends (Ahead t.ops c.body) env n w)
      (λ ys env1 m w1 lt. taking_spends (next_number c i) w1 _ n (λ k. later (Round c k ys b) env1 m w1 n lt))
  round_spends false t c i xs b env n w = behind_spends b xs env n w

  test_spends : (c : Counting) (i : ℕ) (xs : List Value) (b : Behind) (env : Env) (n : ℕ) (w : World State) → Spends (test run c i xs b env n w) n
  test_spends c i xs b env n w =
      taking_spends (present (entry c.body)) w _ n (λ t. taking_spends (present (bind t.args (Integer i ∷ xs) env)) w _ n (λ inner.
      round_spends (has_round c i) t c i xs b inner n w))

  again_spends : (holds : Bool) (l : Looping) (xs : List Value) (b : Behind) (env : Env) (n : ℕ) (w : World State) → Spends (again run holds l xs b env n w) n
  again_spends true l xs b env n w =
      yield_spends (into run l.after xs env n w) _ n (into_spends l.after xs env n w) (λ ys env1 m w1 lt. later (Again l ys b) env1 m w1 n lt)
  again_spends false l xs b env n w = behind_spends b xs env n w

  while_spends : (l : Looping) (xs : List Value) (b : Behind) (env : Env) (n : ℕ) (w : World State) → Spends (while run l xs b env n w) n
  while_spends l xs b env n w =
      condition_spends (into run l.before xs env n w) _ n (into_spends l.before xs env n w) (λ c ys env1 m w1 lt.
      taking_spends (truth c) w1 _ n (λ holds. weaker (again run holds l ys b env1 m w1) (again_spends holds l ys b env1 m w1) (omega arith)))

  settle_spends : (st : Step Spot State) (n : ℕ) (w : World State) → Spends (settle run st n w) n
  settle_spends (Goes s m) n w = spends (Ahead s.ops s.blocks) s.env n _
  settle_spends (Calls f xs k rs s m) n w = tt
  settle_spends (Returns xs m) n w = tt
  settle_spends (Stops e m) n w = tt

  resume_spends : (d : Doing) (rs : List ℕ) (s : Spot) (n : ℕ) (w : World State) → Spends (resume ask run d rs s n w) n
  resume_spends d rs s n w = settle_spends (performs ask d rs s w.memory) n w

  call_spends : (body : Blocks) (f : Function) (xs : List Value) (k : List Value → Doing) (rs : List ℕ) (s : Spot) (n : ℕ) (w : World State)
      → Spends (call ask run body f xs k rs s n w) n
  call_spends BlocksEnd f xs k rs s n w = taking_spends (external f xs w) w _ n (λ told. resume_spends (k told.values) rs s n told.world)
  call_spends (Block l args ops more) f xs k rs s n w =
      taking_spends (begins f xs) w _ n (λ start.
      return_spends (run (Ahead start.ops start.blocks) start.env n w) _ n (spends (Ahead start.ops start.blocks) start.env n w) (λ ys m w1 lt.
      weaker (resume ask run (k ys) rs s m w1) (resume_spends (k ys) rs s m w1) (omega arith)))

  -- behind one unit
  follow_spends : (st : Step Spot State) (n : ℕ) (w : World State) → Spends (follow ask fs run st n w) (suc n)
  follow_spends (Goes s m) n w = weaker (run (Ahead s.ops s.blocks) s.env n _) (spends (Ahead s.ops s.blocks) s.env n _) (omega arith)
  follow_spends (Calls f xs k rs s m) n w =
      taking_spends (present (find_function f fs)) _ _ (suc n) (λ g.
      weaker (call ask run g.body g xs k rs s n _) (call_spends g.body g xs k rs s n _) (omega arith))
  follow_spends (Returns xs m) n w = omega arith
  follow_spends (Stops e m) n w = tt

  more : (r : Ran State) (n : ℕ) → Spends r n → Spends r (suc n)
  more r n h = weaker r h (omega arith)

  means_spends : (form : Form) (rs : List ℕ) (xs : List Value) (ls : List ℕ) (held : Regions) (b : Behind) (env : Env) (n : ℕ) (w : World State)
      → Spends (means ask fs run form rs xs ls held b env n w) (suc n)
  means_spends If rs (c ∷ []) ls held b env n w =
      taking_spends (truth c) w _ (suc n) (λ holds. more (once run (region_at (first_if holds) held) b env n w) n (once_spends (region_at (first_if holds) held) b env n w))
  means_spends (For width) rs (x ∷ y ∷ z ∷ xs) ls held b env n w =
      taking_spends (counts width x y z (region_at 0 held)) w _ (suc n) (λ start. more (run (Round start.1 start.0 xs b) env n w) n (spends (Round start.1 start.0 xs b) env n w))
  means_spends While rs xs ls held b env n w = more (run (Again _ xs b) env n w) n (spends (Again _ xs b) env n w)
  means_spends (Switch width cases) rs (x ∷ []) ls held b env n w =
      taking_spends (number x) w _ (suc n) (λ k. more (once run (region_at (case_of width k 1 cases) held) b env n w) n (once_spends (region_at (case_of width k 1 cases) held) b env n w))
  means_spends Execute rs [] ls held b env n w =
      more (on_yield (into run (region_at 0 held) [] env n w) (behind run b)) n
      (yield_spends (into run (region_at 0 held) [] env n w) (behind run b) n (into_spends (region_at 0 held) [] env n w)
      (λ xs env1 m w1 lt. behind_later b xs env1 m w1 n lt))
  means_spends Yield rs xs ls held b env n w = omega arith
  means_spends Condition rs (c ∷ xs) ls held b env n w = omega arith
  means_spends form rs xs ls held b env n w =
      follow_spends (performs ask (does form ls xs) rs (record { ops = b.rest; blocks = b.blocks; env = env }) w.memory) n w

  ahead_spends : (ops : Ops) (blocks : Blocks) (env : Env) (n : ℕ) (w : World State) → Spends (ahead ask fs run ops blocks env n w) n
  ahead_spends ops blocks env zero w = tt
  ahead_spends OpsEnd blocks env (suc n) w = tt
  ahead_spends (Op form rs os ls held rest) blocks env (suc n) w =
      taking_spends (present (lookups os env)) w _ (suc n) (λ xs. means_spends form rs xs ls held (record { results = rs; rest = rest; blocks = blocks }) env n w)

  pub code_spends : (code : Code) (env : Env) (n : ℕ) (w : World State) → Spends (run_code ask fs run code env n w) n
  code_spends (Ahead ops blocks) env n w = ahead_spends ops blocks env n w
  code_spends (Round c i xs b) env n w = test_spends c i xs b env n w
  code_spends (Again l xs b) env n w = while_spends l xs b env n w

pub deep_spends : {State : Type 0} (ask : Question → State → Reply State) (fs : List Function) (d : ℕ) (code : Code) (env : Env) (n : ℕ) (w : World State)
    → Spends (deep ask fs d code env n w) n
deep_spends ask fs zero code env n w = tt
deep_spends ask fs (suc d) code env n w = code_spends ask fs (deep ask fs d) (deep_spends ask fs d) code env n w
