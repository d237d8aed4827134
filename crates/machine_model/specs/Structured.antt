-- The structured meaning: a region is run to its end inside the run of the operation that holds it, a function inside the run of its call.
use Rattle.std.specs.Prelude.{ℕ, zero, suc, ◌+◌, ◌*◌, Bool, true, false, List, [], ◌∷◌}
use Rattle.number_model.specs.Answers.{Answer, Gives, present}
use Rattle.number_model.specs.Answers.{Answer as answer}
use Rattle.operation_model.specs.Values.{Value, Integer, number}
use Rattle.operation_model.specs.Pures.{truth}
use Rattle.operation_model.specs.Doings.{Doing, Question}
use Rattle.operation_model.specs.Forms.{Form, If, For, While, Switch, Execute, Yield, Condition}
use Rattle.operation_model.specs.Straight.{does}
use Rattle.form_model.specs.Codes.{Ops, OpsEnd, Op, Blocks, BlocksEnd, Block, Regions, region_at, Target, entry, Function, find_function, Env, lookups, bind}
use Rattle.machine_model.specs.Worlds.{Stop, More, Undefined, Outside, Reply, World}
use Rattle.machine_model.specs.Machine.{Spot, Behind, Counting, Looping, Step, Goes, Calls, Returns, Stops, performs, has_round, next_number, counts, case_of, first_if, begins, external, Outcome, with_memory}
use Rattle.machine_model.specs.Machine.{Finish as finish}

-- What is run: the operations ahead in a block of these blocks; a counting loop at its test, at a number and with the values that it
-- carries; or a loop with a condition, with the values that it carries.
pub data Code : Type 0 where
  Ahead : Ops → Blocks → Code
  Round : Counting → ℕ → List Value → Behind → Code
  Again : Looping → List Value → Behind → Code

-- What that comes to, with the values of the function, the fuel that is left and the world: the region yields values, or ends by a
-- condition and values; the function returns; or the run stops.
pub data Ran (State : Type 0) : Type 0 where
  Yields : List Value → Env → ℕ → World State → Ran State
  Decides : Value → List Value → Env → ℕ → World State → Ran State
  Returned : List Value → ℕ → World State → Ran State
  Stopped : Stop → World State → Ran State

-- how what is inside is run
abbrev pub Runs : Type 0 → Type 0
Runs State = Code → Env → ℕ → World State → Ran State

abbrev pub taking : {A State : Type 0} → Answer A → World State → (A → Ran State) → Ran State
taking (Gives a) w next = next a
taking answer.Undefined w next = Stopped Undefined w
taking answer.Outside w next = Stopped Outside w

-- on with what a region yields
abbrev pub on_yield : {State : Type 0} → Ran State → (List Value → Env → ℕ → World State → Ran State) → Ran State
on_yield (Yields xs env n w) next = next xs env n w
on_yield (Decides c xs env n w) next = Stopped Outside w
on_yield (Returned xs n w) next = Returned xs n w
on_yield (Stopped e w) next = Stopped e w

-- on with the condition by which a region ends
abbrev pub on_condition : {State : Type 0} → Ran State → (Value → List Value → Env → ℕ → World State → Ran State) → Ran State
on_condition (Yields xs env n w) next = Stopped Outside w
on_condition (Decides c xs env n w) next = next c xs env n w
on_condition (Returned xs n w) next = Returned xs n w
on_condition (Stopped e w) next = Stopped e w

-- on with what a function returns
abbrev pub on_return : {State : Type 0} → Ran State → (List Value → ℕ → World State → Ran State) → Ran State
on_return (Yields xs env n w) next = Stopped Outside w
on_return (Decides c xs env n w) next = Stopped Outside w
on_return (Returned xs n w) next = next xs n w
on_return (Stopped e w) next = Stopped e w

-- a region from its first block on, with these arguments
abbrev pub into : {State : Type 0} → Runs State → Blocks → List Value → Env → ℕ → World State → Ran State
into run b xs env n w =
    taking (present (entry b)) w (λ t. taking (present (bind t.args xs env)) w (λ inner. run (Ahead t.ops b) inner n w))

-- behind an operation with regions, with these results
abbrev pub behind : {State : Type 0} → Runs State → Behind → List Value → Env → ℕ → World State → Ran State
behind run b xs env n w = taking (present (bind b.results xs env)) w (λ outer. run (Ahead b.rest b.blocks) outer n w)

-- a region that is run once gives the results. An empty one gives none.
abbrev pub once : {State : Type 0} → Runs State → Blocks → Behind → Env → ℕ → World State → Ran State
once run BlocksEnd b env n w = behind run b [] env n w
once run (Block l args ops more) b env n w = on_yield (into run (Block l args ops more) [] env n w) (behind run b)

-- a counting loop at its test: its number and the values that it carries are bound, and a round is run while there is one
abbrev pub round : {State : Type 0} → Runs State → Bool → Target → Counting → ℕ → List Value → Behind → Env → ℕ → World State → Ran State
round run true t c i xs b env n w =
    on_yield (run (Ahead t.ops c.body) env n w) (λ ys env1 n1 w1. taking (next_number c i) w1 (λ next. run (Round c next ys b) env1 n1 w1))
round run false t c i xs b env n w = behind run b xs env n w

abbrev pub test : {State : Type 0} → Runs State → Counting → ℕ → List Value → Behind → Env → ℕ → World State → Ran State
test run c i xs b env n w =
    taking (present (entry c.body)) w (λ t. taking (present (bind t.args (Integer i ∷ xs) env)) w (λ inner.
    round run (has_round c i) t c i xs b inner n w))

-- a loop with a condition: on by its second region where it holds, else it gives the values as results
abbrev pub again : {State : Type 0} → Runs State → Bool → Looping → List Value → Behind → Env → ℕ → World State → Ran State
again run true l xs b env n w = on_yield (into run l.after xs env n w) (λ ys env1 n1 w1. run (Again l ys b) env1 n1 w1)
again run false l xs b env n w = behind run b xs env n w

abbrev pub while : {State : Type 0} → Runs State → Looping → List Value → Behind → Env → ℕ → World State → Ran State
while run l xs b env n w =
    on_condition (into run l.before xs env n w) (λ c ys env1 n1 w1. taking (truth c) w1 (λ holds. again run holds l ys b env1 n1 w1))

-- behind a call that has returned: an operation makes one call at most
abbrev pub settle : {State : Type 0} → Runs State → Step Spot State → ℕ → World State → Ran State
settle run (Goes s m) n w = run (Ahead s.ops s.blocks) s.env n (with_memory w m)
settle run (Calls f xs k rs s m) n w = Stopped Outside (with_memory w m)
settle run (Returns xs m) n w = Stopped Outside (with_memory w m)
settle run (Stops e m) n w = Stopped e (with_memory w m)

abbrev pub resume : {State : Type 0} → (Question → State → Reply State) → Runs State → Doing → List ℕ → Spot → ℕ → World State → Ran State
resume ask run d rs s n w = settle run (performs ask d rs s w.memory) n w

-- a call of an external function is told, one of another function runs its body
abbrev pub call : {State : Type 0} → (Question → State → Reply State) → Runs State → Blocks → Function → List Value → (List Value → Doing) → List ℕ → Spot → ℕ → World State → Ran State
call ask run BlocksEnd f xs k rs s n w = taking (external f xs w) w (λ told. resume ask run (k told.values) rs s n told.world)
call ask run (Block l args ops more) f xs k rs s n w =
    taking (begins f xs) w (λ start.
    on_return (run (Ahead start.ops start.blocks) start.env n w) (λ ys n1 w1. resume ask run (k ys) rs s n1 w1))

abbrev pub follow : {State : Type 0} → (Question → State → Reply State) → List Function → Runs State → Step Spot State → ℕ → World State → Ran State
follow ask fs run (Goes s m) n w = run (Ahead s.ops s.blocks) s.env n (with_memory w m)
follow ask fs run (Calls f xs k rs s m) n w =
    taking (present (find_function f fs)) (with_memory w m) (λ g. call ask run g.body g xs k rs s n (with_memory w m))
follow ask fs run (Returns xs m) n w = Returned xs n (with_memory w m)
follow ask fs run (Stops e m) n w = Stopped e (with_memory w m)

-- an operation, by its form, results, operands, successors and regions, with what stands behind it
abbrev pub means : {State : Type 0} → (Question → State → Reply State) → List Function → Runs State → Form → List ℕ → List Value → List ℕ → Regions → Behind → Env → ℕ → World State → Ran State
means ask fs run If rs (c ∷ []) ls regions b env n w =
    taking (truth c) w (λ holds. once run (region_at (first_if holds) regions) b env n w)
means ask fs run (For width) rs (x ∷ y ∷ z ∷ xs) ls regions b env n w =
    taking (counts width x y z (region_at 0 regions)) w (λ start. run (Round start.1 start.0 xs b) env n w)
means ask fs run While rs xs ls regions b env n w =
    run (Again (record { before = region_at 0 regions; after = region_at 1 regions }) xs b) env n w
means ask fs run (Switch width cases) rs (x ∷ []) ls regions b env n w =
    taking (number x) w (λ k. once run (region_at (case_of width k 1 cases) regions) b env n w)
means ask fs run Execute rs [] ls regions b env n w = on_yield (into run (region_at 0 regions) [] env n w) (behind run b)
means ask fs run Yield rs xs ls regions b env n w = Yields xs env n w
means ask fs run Condition rs (c ∷ xs) ls regions b env n w = Decides c xs env n w
means ask fs run form rs xs ls regions b env n w =
    follow ask fs run (performs ask (does form ls xs) rs (record { ops = b.rest; blocks = b.blocks; env = env }) w.memory) n w

-- the operations ahead: where fuel is left, the first takes one unit
abbrev pub ahead : {State : Type 0} → (Question → State → Reply State) → List Function → Runs State → Ops → Blocks → Env → ℕ → World State → Ran State
ahead ask fs run ops blocks env zero w = Stopped More w
ahead ask fs run OpsEnd blocks env (suc n) w = Stopped Outside w
ahead ask fs run (Op form rs os ls regions rest) blocks env (suc n) w =
    taking (present (lookups os env)) w (λ xs. means ask fs run form rs xs ls regions (record { results = rs; rest = rest; blocks = blocks }) env n w)

abbrev pub run_code : {State : Type 0} → (Question → State → Reply State) → List Function → Runs State → Runs State
run_code ask fs run (Ahead ops blocks) env n w = ahead ask fs run ops blocks env n w
run_code ask fs run (Round c i xs b) env n w = test run c i xs b env n w
run_code ask fs run (Again l xs b) env n w = while run l xs b env n w

-- codes inside codes at most so deep
abbrev pub deep : {State : Type 0} → (Question → State → Reply State) → List Function → ℕ → Runs State
deep ask fs zero code env n w = Stopped More w
deep ask fs (suc d) code env n w = run_code ask fs (deep ask fs d) code env n w

-- the function's body with so much fuel. Between two units no code holds more than one other one, so twice the fuel is deep enough.
abbrev pub runs : {State : Type 0} → (Question → State → Reply State) → List Function → Ops → Blocks → Env → ℕ → World State → Ran State
runs ask fs ops blocks env n w = deep ask fs (2 * n + 1) (Ahead ops blocks) env n w

-- what it comes to as a whole
abbrev pub outcome_of : {State : Type 0} → Ran State → Outcome State
outcome_of (Yields xs env n w) = record { finish = finish.Stopped Outside; world = w }
outcome_of (Decides c xs env n w) = record { finish = finish.Stopped Outside; world = w }
outcome_of (Returned xs n w) = record { finish = finish.Returned xs; world = w }
outcome_of (Stopped e w) = record { finish = finish.Stopped e; world = w }
