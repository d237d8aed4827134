-- The machine: one operation a step, with the regions that wait and the calls that are under way in lists.
use Rattle.std.specs.Prelude.{ℕ, zero, suc, ◌+◌, ◌==◌, Bool, true, false, not, List, [], ◌∷◌, map, length, ℤ, pos, ◌+ℤ◌, int_lt, if◌then◌else◌}
use Rattle.number_model.specs.Numbers.{unsigned, signed, wrapped, fits_signed}
use Rattle.number_model.specs.Answers.{Answer, Gives, and_then, undefined_if, present}
use Rattle.number_model.specs.Answers.{Answer as answer}
use Rattle.operation_model.specs.Values.{Value, Integer, number, numbers}
use Rattle.operation_model.specs.Pures.{truth}
use Rattle.operation_model.specs.Doings.{Doing, Ends, Asks, Jumps, Question}
use Rattle.operation_model.specs.Doings.{Doing as doing}
use Rattle.operation_model.specs.Calling.{packed, gathered}
use Rattle.operation_model.specs.Forms.{Form, If, For, While, Switch, Execute, Yield, Condition}
use Rattle.operation_model.specs.Straight.{does}
use Rattle.form_model.specs.Codes.{Ops, OpsEnd, Op, Blocks, BlocksEnd, Block, Regions, region_at, Target, entry, find_block, Function, find_function, Env, lookups, bind}
use Rattle.machine_model.specs.Worlds.{Stop, More, Undefined, Outside, Reply, Answers, Refuses, World, answered, all_signed, told}

-- Places

-- a spot in a function: the operations ahead in a block, the blocks of its region, and the values so far
pub record Spot : Type 0 where
  pub ops : Ops
  pub blocks : Blocks
  pub env : Env

-- what waits behind an operation with regions: its results, the operations behind it and the blocks of its region
pub record Behind : Type 0 where
  pub results : List ℕ
  pub rest : Ops
  pub blocks : Blocks

-- a loop that counts: the width of its numbers, the bound, the step and its body
pub record Counting : Type 0 where
  pub width : ℕ
  pub upper : ℕ
  pub by : ℕ
  pub body : Blocks

-- a loop with a condition: the region that ends by it and the region behind it
pub record Looping : Type 0 where
  pub before : Blocks
  pub after : Blocks

-- a region under way
pub data Frame : Type 0 where
  -- that is run once
  Once : Behind → Frame
  -- the body of a counting loop, at a number
  Body : Counting → ℕ → Behind → Frame
  -- the two regions of a loop with a condition
  Before : Looping → Behind → Frame
  After : Looping → Behind → Frame

-- a place in a function: a spot and the regions under way, the innermost first
pub record Place : Type 0 where
  pub spot : Spot
  pub frames : List Frame

-- What one operation comes to, from spots or places P.
pub data Step (P State : Type 0) : Type 0 where
  Goes : P → State → Step P State
  -- a call: the name, the values that are handed over, how it goes on, the results, and the place behind it
  Calls : List ℕ → List Value → (List Value → Doing) → List ℕ → P → State → Step P State
  Returns : List Value → State → Step P State
  Stops : Stop → State → Step P State

-- a step as one of places in these regions
abbrev pub within : {State : Type 0} → List Frame → Step Spot State → Step Place State
within frames (Goes s m) = Goes (record { spot = s; frames = frames }) m
within frames (Calls f xs k rs s m) = Calls f xs k rs (record { spot = s; frames = frames }) m
within frames (Returns xs m) = Returns xs m
within frames (Stops e m) = Stops e m

-- going on with what was given
abbrev pub stepping : {A P State : Type 0} → Answer A → State → (A → Step P State) → Step P State
stepping (Gives a) m next = next a
stepping answer.Undefined m next = Stops Undefined m
stepping answer.Outside m next = Stops Outside m

abbrev pub at_block : {State : Type 0} → List Value → Spot → State → Target → Step Spot State
at_block ys s m t = stepping (present (bind t.args ys s.env)) m (λ env. Goes (record { ops = t.ops; blocks = s.blocks; env = env }) m)

abbrev pub on_reply : {P State : Type 0} → State → Reply State → (List Value → State → Step P State) → Step P State
on_reply m (Answers ys m1) next = next ys m1
on_reply m (Refuses e) next = Stops e m

-- what is done, at the spot behind the operation with these results
abbrev pub performs : {State : Type 0} → (Question → State → Reply State) → Doing → List ℕ → Spot → State → Step Spot State
performs ask (Ends ys) rs s m = stepping (present (bind rs ys s.env)) m (λ env. Goes (record { ops = s.ops; blocks = s.blocks; env = env }) m)
performs ask (Asks q k) rs s m = on_reply m (ask q m) (λ ys m1. performs ask (k ys) rs s m1)
performs ask (doing.Calls f xs k) rs s m = Calls f xs k rs s m
performs ask (Jumps l ys) rs s m = stepping (present (find_block l s.blocks)) m (at_block ys s m)
performs ask (doing.Returns ys) rs s m = Returns ys m
performs ask doing.Undefined rs s m = Stops Undefined m
performs ask doing.Outside rs s m = Stops Outside m

-- Regions

-- into the first block of a region, with these arguments
abbrev pub enters : {State : Type 0} → Blocks → List Value → Env → List Frame → State → Step Place State
enters b xs env frames m =
    stepping (present (entry b)) m (λ t. stepping (present (bind t.args xs env)) m (λ inner.
    Goes (record { spot = record { ops = t.ops; blocks = b; env = inner }; frames = frames }) m))

-- behind the operation that holds the region, with these results
abbrev pub leaves : {State : Type 0} → Behind → List Value → Env → List Frame → State → Step Place State
leaves b xs env frames m =
    stepping (present (bind b.results xs env)) m (λ outer.
    Goes (record { spot = record { ops = b.rest; blocks = b.blocks; env = outer }; frames = frames }) m)

-- whether the counting loop has a round at this number: while it is below the bound, both as signed numbers
abbrev pub has_round : Counting → ℕ → Bool
has_round c i = int_lt (signed c.width i) (signed c.width c.upper)

-- a counting loop at its test, with the number and the values that it carries bound as the arguments of its body
abbrev pub tested : {State : Type 0} → Bool → Target → Counting → ℕ → List Value → Behind → Env → List Frame → State → Step Place State
tested true t c i xs b env frames m = Goes (record { spot = record { ops = t.ops; blocks = c.body; env = env }; frames = Body c i b ∷ frames }) m
tested false t c i xs b env frames m = leaves b xs env frames m

abbrev pub turns : {State : Type 0} → Counting → ℕ → List Value → Behind → Env → List Frame → State → Step Place State
turns c i xs b env frames m =
    stepping (present (entry c.body)) m (λ t. stepping (present (bind t.args (Integer i ∷ xs) env)) m (λ inner.
    tested (has_round c i) t c i xs b inner frames m))

-- the next number, undefined where it passes the signed range
abbrev pub next_number : Counting → ℕ → Answer ℕ
next_number c i =
    undefined_if (not (fits_signed c.width (signed c.width i +ℤ signed c.width c.by))) (Gives (wrapped c.width (signed c.width i +ℤ signed c.width c.by)))

-- whether the step is none: 0 or less
abbrev pub is_no_step : ℕ → ℕ → Bool
is_no_step w by = not (int_lt (pos 0) (signed w by))

-- a counting loop that begins: from the first number to the second by the third
abbrev pub counts : ℕ → Value → Value → Value → Blocks → Answer (ℕ × Counting)
counts w x y z body =
    and_then (number x) (λ lower. and_then (number y) (λ upper. and_then (number z) (λ by.
    undefined_if (is_no_step w by) (Gives (lower, record { width = w; upper = upper; by = by; body = body })))))

-- the region of a switch: that of the first case that is equal to the number modulo 2 to the width, counted from 1, else the first one
abbrev pub case_of : ℕ → ℕ → ℕ → List ℤ → ℕ
case_of w n i [] = 0
case_of w n i (z ∷ zs) = if unsigned w n == wrapped w z then i else case_of w n (i + 1) zs

-- into a region that is run once. An empty one gives no values at once.
abbrev pub enters_once : {State : Type 0} → Blocks → Behind → Env → List Frame → State → Step Place State
enters_once BlocksEnd b env frames m = leaves b [] env frames m
enters_once (Block l args ops more) b env frames m = enters (Block l args ops more) [] env (Once b ∷ frames) m

-- a region under way that yields values
abbrev pub yields : {State : Type 0} → List Value → Env → List Frame → State → Step Place State
yields xs env [] m = Stops Outside m
yields xs env (Once b ∷ frames) m = leaves b xs env frames m
yields xs env (Body c i b ∷ frames) m = stepping (next_number c i) m (λ next. turns c next xs b env frames m)
yields xs env (Before l b ∷ frames) m = Stops Outside m
yields xs env (After l b ∷ frames) m = enters l.before xs env (Before l b ∷ frames) m

-- the condition of a loop
abbrev pub decided : {State : Type 0} → Bool → Looping → List Value → Behind → Env → List Frame → State → Step Place State
decided true l xs b env frames m = enters l.after xs env (After l b ∷ frames) m
decided false l xs b env frames m = leaves b xs env frames m

abbrev pub decides : {State : Type 0} → Value → List Value → Env → List Frame → State → Step Place State
decides c xs env (Before l b ∷ frames) m = stepping (truth c) m (λ holds. decided holds l xs b env frames m)
decides c xs env _ m = Stops Outside m

abbrev pub first_if : Bool → ℕ
first_if true = 0
first_if false = 1

-- One operation

-- what an operation comes to, by its form, results, operands, successors and regions, with what waits behind it
abbrev pub acts : {State : Type 0} → (Question → State → Reply State) → Form → List ℕ → List Value → List ℕ → Regions → Behind → Env → List Frame → State → Step Place State
acts ask If rs (c ∷ []) ls regions b env frames m =
    stepping (truth c) m (λ holds. enters_once (region_at (first_if holds) regions) b env frames m)
acts ask (For w) rs (x ∷ y ∷ z ∷ xs) ls regions b env frames m =
    stepping (counts w x y z (region_at 0 regions)) m (λ start. turns start.1 start.0 xs b env frames m)
acts ask While rs xs ls regions b env frames m =
    enters (region_at 0 regions) xs env (Before (record { before = region_at 0 regions; after = region_at 1 regions }) b ∷ frames) m
acts ask (Switch w cases) rs (x ∷ []) ls regions b env frames m =
    stepping (number x) m (λ n. enters_once (region_at (case_of w n 1 cases) regions) b env frames m)
acts ask Execute rs [] ls regions b env frames m = enters (region_at 0 regions) [] env (Once b ∷ frames) m
acts ask Yield rs xs ls regions b env frames m = yields xs env frames m
acts ask Condition rs (c ∷ xs) ls regions b env frames m = decides c xs env frames m
acts ask form rs xs ls regions b env frames m =
    within frames (performs ask (does form ls xs) rs (record { ops = b.rest; blocks = b.blocks; env = env }) m)

-- one step from a place
abbrev pub step_at : {State : Type 0} → (Question → State → Reply State) → Ops → Blocks → Env → List Frame → State → Step Place State
step_at ask OpsEnd blocks env frames m = Stops Outside m
step_at ask (Op form rs os ls regions rest) blocks env frames m =
    stepping (present (lookups os env)) m (λ xs. acts ask form rs xs ls regions (record { results = rs; rest = rest; blocks = blocks }) env frames m)

abbrev pub step : {State : Type 0} → (Question → State → Reply State) → Place → State → Step Place State
step ask p m = step_at ask p.spot.ops p.spot.blocks p.spot.env p.frames m

-- Calls

-- a call under way: how it goes on with what is returned, the results and the place behind it
pub record Caller : Type 0 where
  pub goes_on : List Value → Doing
  pub results : List ℕ
  pub place : Place

-- How a run ends: with what the function returns, or before it does.
pub data Finish : Type 0 where
  Returned : List Value → Finish
  Stopped : Stop → Finish

-- what a run comes to
pub record Outcome (State : Type 0) : Type 0 where
  pub finish : Finish
  pub world : World State

abbrev pub with_memory : {State : Type 0} → World State → State → World State
with_memory w m = record { memory = m; answers = w.answers; trace = w.trace }

abbrev pub stopped : {State : Type 0} → Stop → World State → Outcome State
stopped e w = record { finish = Stopped e; world = w }

abbrev pub ending : {A State : Type 0} → Answer A → World State → (A → Outcome State) → Outcome State
ending (Gives a) w next = next a
ending answer.Undefined w next = stopped Undefined w
ending answer.Outside w next = stopped Outside w

-- how a run goes on from a place, with the calls under way, the newest first
abbrev pub Next : Type 0 → Type 0
Next State = Place → List Caller → World State → Outcome State

-- behind a call that has returned: an operation makes one call at most
abbrev pub settles : {State : Type 0} → Next State → Step Place State → List Caller → World State → Outcome State
settles next (Goes p m) cs w = next p cs (with_memory w m)
settles next (Calls f xs k rs p m) cs w = stopped Outside (with_memory w m)
settles next (Returns xs m) cs w = stopped Outside (with_memory w m)
settles next (Stops e m) cs w = stopped e (with_memory w m)

abbrev pub resumes : {State : Type 0} → (Question → State → Reply State) → Next State → Doing → List ℕ → Place → List Caller → World State → Outcome State
resumes ask next d rs p cs w = settles next (within p.frames (performs ask d rs p.spot w.memory)) cs w

-- An external function is called: its arguments and answers go to the trace. Outside comes before undefined: first whether all are integers.
pub record Told (State : Type 0) : Type 0 where
  pub values : List Value
  pub world : World State

abbrev pub tells : {State : Type 0} → Function → List ℕ → List ℕ → List ℕ → World State → Told State
tells f inputs outputs ns w =
    record {
      values = packed f.face.packing (map Integer (answered outputs w.answers));
      world = told inputs outputs (record { name = f.name; args = all_signed inputs ns; answers = all_signed outputs (answered outputs w.answers) }) w;
    }

abbrev pub external : {State : Type 0} → Function → List Value → World State → Answer (Told State)
external f xs w =
    and_then (present f.face.inputs) (λ inputs. and_then (present f.face.outputs) (λ outputs.
    if length xs == length inputs then and_then (numbers xs) (λ ns. Gives (tells f inputs outputs ns w)) else answer.Outside))

-- a call of a function with blocks enters the first one
abbrev pub begins : Function → List Value → Answer Spot
begins f xs =
    and_then (gathered f.shapes xs) (λ args. and_then (present (entry f.body)) (λ t. and_then (present (bind t.args args [])) (λ env.
    Gives (record { ops = t.ops; blocks = f.body; env = env }))))

-- the place at a spot that no region holds
abbrev pub at_top : Spot → Place
at_top s = record { spot = s; frames = [] }

abbrev pub calls_body : {State : Type 0} → (Question → State → Reply State) → Next State → Blocks → Function → List Value → Caller → List Caller → World State → Outcome State
calls_body ask next BlocksEnd f xs c cs w = ending (external f xs w) w (λ told. resumes ask next (c.goes_on told.values) c.results c.place cs told.world)
calls_body ask next (Block l args ops more) f xs c cs w = ending (begins f xs) w (λ s. next (at_top s) (c ∷ cs) w)

-- what a return comes to: the run is over, or the newest call goes on
abbrev pub gives_back : {State : Type 0} → (Question → State → Reply State) → Next State → List Value → List Caller → World State → Outcome State
gives_back ask next xs [] w = record { finish = Returned xs; world = w }
gives_back ask next xs (c ∷ cs) w = resumes ask next (c.goes_on xs) c.results c.place cs w

-- what a step comes to
abbrev pub follows : {State : Type 0} → (Question → State → Reply State) → List Function → Next State → Step Place State → List Caller → World State → Outcome State
follows ask fs next (Goes p m) cs w = next p cs (with_memory w m)
follows ask fs next (Calls f xs k rs p m) cs w =
    ending (present (find_function f fs)) (with_memory w m) (λ g.
    calls_body ask next g.body g xs (record { goes_on = k; results = rs; place = p }) cs (with_memory w m))
follows ask fs next (Returns xs m) cs w = gives_back ask next xs cs (with_memory w m)
follows ask fs next (Stops e m) cs w = stopped e (with_memory w m)

-- a run with so much fuel: each operation takes one unit before it is executed
abbrev pub exec : {State : Type 0} → (Question → State → Reply State) → List Function → ℕ → Next State
exec ask fs zero p cs w = stopped More w
exec ask fs (suc n) p cs w = follows ask fs (exec ask fs n) (step ask p w.memory) cs w
