-- Functions with other operands: where an operation finds the same values, its step is the same one among them.
use Rattle.std.proofs.Common.{◌≡◌, ℕ, zero, suc, ◌==◌, Bool, true, false, List, [], ◌∷◌, Option, Some, None, map, refl, ap, ◌∙◌}
use Rattle.std.specs.Prelude.{if◌then◌else◌}
use Rattle.number_model.specs.Answers.{Answer, Gives, and_then, present, undefined_if}
use Rattle.number_model.specs.Answers.{Answer as answer}
use Rattle.operation_model.specs.Values.{Value, Integer, number}
use Rattle.operation_model.specs.Pures.{truth}
use Rattle.operation_model.specs.Doings.{Doing, Ends, Asks, Jumps, Question}
use Rattle.operation_model.specs.Doings.{Doing as doing}
use Rattle.operation_model.specs.Forms.{Form, If, For, While, Switch, Execute, Yield, Condition}
use Rattle.operation_model.specs.Straight.{does}
use Rattle.form_model.specs.Codes.{Ops, OpsEnd, Op, Blocks, BlocksEnd, Block, Regions, RegionsEnd, Region, Target, Env, find_block, lookups, bind, region_at}
use Rattle.machine_model.specs.Worlds.{Reply, Answers, Refuses}
use Rattle.machine_model.specs.Machine.{Spot, Behind, Counting, Looping, Frame, Once, Body, Before, After, Place, Step, Goes, Calls, Returns, Stops, acts, at_block, case_of, decided, decides, enters, enters_once, first_if, has_round, is_no_step, leaves, next_number, on_reply, performs, step_at, stepping, tested, turns, within, yields}

module _ (to : ℕ → ℕ) where
  abbrev mutual
    pub ops_to : Ops → Ops
    ops_to OpsEnd = OpsEnd
    ops_to (Op form rs os ls regions rest) = Op form rs (map to os) ls (regions_to regions) (ops_to rest)

    pub regions_to : Regions → Regions
    regions_to RegionsEnd = RegionsEnd
    regions_to (Region b r) = Region (blocks_to b) (regions_to r)

    pub blocks_to : Blocks → Blocks
    blocks_to BlocksEnd = BlocksEnd
    blocks_to (Block l args ops more) = Block l args (ops_to ops) (blocks_to more)

  abbrev pub target_to : Target → Target
  target_to t = record { args = t.args; ops = ops_to t.ops }

  abbrev pub behind_to : Behind → Behind
  behind_to b = record { results = b.results; rest = ops_to b.rest; blocks = blocks_to b.blocks }

  abbrev pub counting_to : Counting → Counting
  counting_to c = record { width = c.width; upper = c.upper; by = c.by; body = blocks_to c.body }

  abbrev pub looping_to : Looping → Looping
  looping_to l = record { before = blocks_to l.before; after = blocks_to l.after }

  abbrev pub frame_to : Frame → Frame
  frame_to (Once b) = Once (behind_to b)
  frame_to (Body c i b) = Body (counting_to c) i (behind_to b)
  frame_to (Before l b) = Before (looping_to l) (behind_to b)
  frame_to (After l b) = After (looping_to l) (behind_to b)

  abbrev pub frames_to : List Frame → List Frame
  frames_to [] = []
  frames_to (f ∷ fs) = frame_to f ∷ frames_to fs

  abbrev pub spot_to : Spot → Spot
  spot_to s = record { ops = ops_to s.ops; blocks = blocks_to s.blocks; env = s.env }

  abbrev pub place_to : Place → Place
  place_to p = record { spot = spot_to p.spot; frames = frames_to p.frames }

  region_to : (i : ℕ) (r : Regions) → region_at i (regions_to r) ≡ blocks_to (region_at i r)
  region_to i RegionsEnd = refl
  region_to zero (Region b r) = refl
  region_to (suc i) (Region b r) = region_to i r

  abbrev pub found_to : Option Target → Option Target
  found_to None = None
  found_to (Some t) = Some (target_to t)

  if_found : (b : Bool) (t : Target) (o : Option Target) → (if b then Some (target_to t) else found_to o) ≡ found_to (if b then Some t else o)
  if_found true t o = refl
  if_found false t o = refl

  find_to : (l : ℕ) (b : Blocks) → find_block l (blocks_to b) ≡ found_to (find_block l b)
  find_to l BlocksEnd = refl
  find_to l (Block k args ops more) =
      ap (λ o. if k == l then Some (record { args = args; ops = ops_to ops }) else o) (find_to l more) ∙ if_found (k == l) (record { args = args; ops = ops }) (find_block l more)

  module _ {State : Type 0} (ask : Question → State → Reply State) where
    abbrev pub step_to : Step Place State → Step Place State
    step_to (Goes p m) = Goes (place_to p) m
    step_to (Calls f xs k rs p m) = Calls f xs k rs (place_to p) m
    step_to (Returns xs m) = Returns xs m
    step_to (Stops e m) = Stops e m

    stepping_to : {A : Type 0} (a : Answer A) (m : State) (f g : A → Step Place State) → ((x : A) → g x ≡ step_to (f x)) → stepping a m g ≡ step_to (stepping a m f)
    stepping_to (Gives x) m f g h = h x
    stepping_to answer.Undefined m f g h = refl
    stepping_to answer.Outside m f g h = refl

    enters_to : (b : Blocks) (xs : List Value) (env : Env) (frames : List Frame) (m : State) → enters (blocks_to b) xs env (frames_to frames) m ≡ step_to (enters b xs env frames m)
    enters_to BlocksEnd xs env frames m = refl
    enters_to (Block l args ops more) xs env frames m = stepping_to (present (bind args xs env)) m _ _ (λ e. refl)

    leaves_to : (b : Behind) (xs : List Value) (env : Env) (frames : List Frame) (m : State) → leaves (behind_to b) xs env (frames_to frames) m ≡ step_to (leaves b xs env frames m)
    leaves_to b xs env frames m = stepping_to (present (bind b.results xs env)) m _ _ (λ e. refl)

    once_to : (x : Blocks) (b : Behind) (env : Env) (frames : List Frame) (m : State) → enters_once (blocks_to x) (behind_to b) env (frames_to frames) m ≡ step_to (enters_once x b env frames m)
    once_to BlocksEnd b env frames m = leaves_to b [] env frames m
    once_to (Block l args ops more) b env frames m = enters_to (Block l args ops more) [] env (Once b ∷ frames) m

    module _ (w upper by i : ℕ) (xs : List Value) (b : Behind) (frames : List Frame) (m : State) where
      tested_to : (round : Bool) (t : Target) (body : Blocks) (env : Env)
          → tested round (target_to t) (record { width = w; upper = upper; by = by; body = blocks_to body }) i xs (behind_to b) env (frames_to frames) m
          ≡ step_to (tested round t (record { width = w; upper = upper; by = by; body = body }) i xs b env frames m)
      tested_to true t body env = refl
      tested_to false t body env = leaves_to b xs env frames m

      turns_to : (body : Blocks) (env : Env)
          → turns (record { width = w; upper = upper; by = by; body = blocks_to body }) i xs (behind_to b) env (frames_to frames) m
          ≡ step_to (turns (record { width = w; upper = upper; by = by; body = body }) i xs b env frames m)
      turns_to BlocksEnd env = refl
      turns_to (Block l args ops more) env =
          stepping_to (present (bind args (Integer i ∷ xs) env)) m _ _
          (λ e. tested_to (has_round (record { width = w; upper = upper; by = by; body = Block l args ops more }) i) (record { args = args; ops = ops }) (Block l args ops more) e)

    yields_to : (frames : List Frame) (xs : List Value) (env : Env) (m : State) → yields xs env (frames_to frames) m ≡ step_to (yields xs env frames m)
    yields_to [] xs env m = refl
    yields_to (Once b ∷ frames) xs env m = leaves_to b xs env frames m
    yields_to (Body c i b ∷ frames) xs env m = stepping_to (next_number c i) m _ _ (λ next. turns_to c.width c.upper c.by next xs b frames m c.body env)
    yields_to (Before l b ∷ frames) xs env m = refl
    yields_to (After l b ∷ frames) xs env m = enters_to l.before xs env (Before l b ∷ frames) m

    decided_to : (holds : Bool) (l : Looping) (b : Behind) (frames : List Frame) (xs : List Value) (env : Env) (m : State)
        → decided holds (looping_to l) xs (behind_to b) env (frames_to frames) m ≡ step_to (decided holds l xs b env frames m)
    decided_to true l b frames xs env m = enters_to l.after xs env (After l b ∷ frames) m
    decided_to false l b frames xs env m = leaves_to b xs env frames m

    decides_to : (frames : List Frame) (c : Value) (xs : List Value) (env : Env) (m : State) → decides c xs env (frames_to frames) m ≡ step_to (decides c xs env frames m)
    decides_to [] c xs env m = refl
    decides_to (Once b ∷ frames) c xs env m = refl
    decides_to (Body k i b ∷ frames) c xs env m = refl
    decides_to (Before l b ∷ frames) c xs env m = stepping_to (truth c) m _ _ (λ holds. decided_to holds l b frames xs env m)
    decides_to (After l b ∷ frames) c xs env m = refl

    module _ (frames : List Frame) (rs : List ℕ) (s : Spot) where
      ends_to : (o : Option Env) (m : State)
          → within (frames_to frames) (stepping (present o) m (λ e. Goes (record { ops = ops_to s.ops; blocks = blocks_to s.blocks; env = e }) m))
          ≡ step_to (within frames (stepping (present o) m (λ e. Goes (record { ops = s.ops; blocks = s.blocks; env = e }) m)))
      ends_to None m = refl
      ends_to (Some e) m = refl

      block_to : (o : Option Env) (t : Target) (m : State)
          → within (frames_to frames) (stepping (present o) m (λ e. Goes (record { ops = ops_to t.ops; blocks = blocks_to s.blocks; env = e }) m))
          ≡ step_to (within frames (stepping (present o) m (λ e. Goes (record { ops = t.ops; blocks = s.blocks; env = e }) m)))
      block_to None t m = refl
      block_to (Some e) t m = refl

      jumps_to : (o : Option Target) (ys : List Value) (m : State)
          → within (frames_to frames) (stepping (present (found_to o)) m (at_block ys (spot_to s) m)) ≡ step_to (within frames (stepping (present o) m (at_block ys s m)))
      jumps_to None ys m = refl
      jumps_to (Some t) ys m = block_to (bind t.args ys s.env) t m

      pub performs_to : (d : Doing) (m : State) → within (frames_to frames) (performs ask d rs (spot_to s) m) ≡ step_to (within frames (performs ask d rs s m))
      performs_to (Ends ys) m = ends_to (bind rs ys s.env) m
      performs_to (Asks q k) m = go (ask q m) (λ ys m1. performs_to (k ys) m1)
        where
          go : (a : Reply State) → ((ys : List Value) (m1 : State) → within (frames_to frames) (performs ask (k ys) rs (spot_to s) m1) ≡ step_to (within frames (performs ask (k ys) rs s m1)))
              → within (frames_to frames) (on_reply m a (λ ys m1. performs ask (k ys) rs (spot_to s) m1)) ≡ step_to (within frames (on_reply m a (λ ys m1. performs ask (k ys) rs s m1)))
          go (Answers ys m1) again = again ys m1
          go (Refuses e) again = refl
      performs_to (doing.Calls f xs k) m = refl
      performs_to (Jumps l ys) m = ap (λ o. within (frames_to frames) (stepping (present o) m (at_block ys (spot_to s) m))) (find_to l s.blocks) ∙ jumps_to (find_block l s.blocks) ys m
      performs_to (doing.Returns ys) m = refl
      performs_to doing.Undefined m = refl
      performs_to doing.Outside m = refl

    module _ (rs ls : List ℕ) (regions : Regions) (b : Behind) (env : Env) (frames : List Frame) (m : State) where
      once_at : (i : ℕ) → enters_once (region_at i (regions_to regions)) (behind_to b) env (frames_to frames) m ≡ step_to (enters_once (region_at i regions) b env frames m)
      once_at i = ap (λ x. enters_once x (behind_to b) env (frames_to frames) m) (region_to i regions) ∙ once_to (region_at i regions) b env frames m

      turns_at : (w upper by i : ℕ) (xs : List Value)
          → turns (record { width = w; upper = upper; by = by; body = region_at 0 (regions_to regions) }) i xs (behind_to b) env (frames_to frames) m
          ≡ step_to (turns (record { width = w; upper = upper; by = by; body = region_at 0 regions }) i xs b env frames m)
      turns_at w upper by i xs =
          ap (λ x. turns (record { width = w; upper = upper; by = by; body = x }) i xs (behind_to b) env (frames_to frames) m) (region_to 0 regions)
          ∙ turns_to w upper by i xs b frames m (region_at 0 regions) env

      begins_to : (w lower upper by : ℕ) (none : Bool) (xs : List Value)
          → stepping (undefined_if {A = ℕ × Counting} none (Gives (lower, record { width = w; upper = upper; by = by; body = region_at 0 (regions_to regions) }))) m (λ start. turns start.1 start.0 xs (behind_to b) env (frames_to frames) m)
          ≡ step_to (stepping (undefined_if {A = ℕ × Counting} none (Gives (lower, record { width = w; upper = upper; by = by; body = region_at 0 regions }))) m (λ start. turns start.1 start.0 xs b env frames m))
      begins_to w lower upper by true xs = refl
      begins_to w lower upper by false xs = turns_at w upper by lower xs

      abbrev loop_from : ℕ → Answer ℕ → Answer ℕ → Answer ℕ → Blocks → Answer (ℕ × Counting)
      loop_from w i j k body =
          and_then i (λ lower. and_then j (λ upper. and_then k (λ by.
          undefined_if (is_no_step w by) (Gives (lower, record { width = w; upper = upper; by = by; body = body })))))

      loop_to : (w : ℕ) (i j k : Answer ℕ) (xs : List Value)
          → stepping (loop_from w i j k (region_at 0 (regions_to regions))) m (λ start. turns start.1 start.0 xs (behind_to b) env (frames_to frames) m)
          ≡ step_to (stepping (loop_from w i j k (region_at 0 regions)) m (λ start. turns start.1 start.0 xs b env frames m))
      loop_to w (Gives i) (Gives j) (Gives k) xs = begins_to w i j k (is_no_step w k) xs
      loop_to w (Gives i) (Gives j) answer.Undefined xs = refl
      loop_to w (Gives i) (Gives j) answer.Outside xs = refl
      loop_to w (Gives i) answer.Undefined k xs = refl
      loop_to w (Gives i) answer.Outside k xs = refl
      loop_to w answer.Undefined j k xs = refl
      loop_to w answer.Outside j k xs = refl

      while_to : (xs : List Value)
          → enters (region_at 0 (regions_to regions)) xs env (Before (record { before = region_at 0 (regions_to regions); after = region_at 1 (regions_to regions) }) (behind_to b) ∷ frames_to frames) m
          ≡ step_to (enters (region_at 0 regions) xs env (Before (record { before = region_at 0 regions; after = region_at 1 regions }) b ∷ frames) m)
      while_to xs =
          ap (λ x. enters x xs env (Before (record { before = x; after = region_at 1 (regions_to regions) }) (behind_to b) ∷ frames_to frames) m) (region_to 0 regions)
          ∙ ap (λ x. enters (blocks_to (region_at 0 regions)) xs env (Before (record { before = blocks_to (region_at 0 regions); after = x }) (behind_to b) ∷ frames_to frames) m) (region_to 1 regions)
          ∙ enters_to (region_at 0 regions) xs env (Before (record { before = region_at 0 regions; after = region_at 1 regions }) b ∷ frames) m

      acts_to : (form : Form) (xs : List Value) → acts ask form rs xs ls (regions_to regions) (behind_to b) env (frames_to frames) m ≡ step_to (acts ask form rs xs ls regions b env frames m)
      acts_to If (c ∷ []) = stepping_to (truth c) m _ _ (λ holds. once_at (first_if holds))
      acts_to If [] = refl
      acts_to If (c ∷ d ∷ xs) = refl
      acts_to (For w) (x ∷ y ∷ z ∷ xs) = loop_to w (number x) (number y) (number z) xs
      acts_to (For w) [] = refl
      acts_to (For w) (x ∷ []) = refl
      acts_to (For w) (x ∷ y ∷ []) = refl
      acts_to While xs = while_to xs
      acts_to (Switch w cases) (x ∷ []) = stepping_to (number x) m _ _ (λ n. once_at (case_of w n 1 cases))
      acts_to (Switch w cases) [] = refl
      acts_to (Switch w cases) (x ∷ y ∷ xs) = refl
      acts_to Execute [] = ap (λ x. enters x [] env (Once (behind_to b) ∷ frames_to frames) m) (region_to 0 regions) ∙ enters_to (region_at 0 regions) [] env (Once b ∷ frames) m
      acts_to Execute (x ∷ xs) = refl
      acts_to Yield xs = yields_to frames xs env m
      acts_to Condition (c ∷ xs) = decides_to frames c xs env m
      acts_to Condition [] = refl
      acts_to form xs = performs_to frames rs (record { ops = b.rest; blocks = b.blocks; env = env }) (does form ls xs) m

    -- the values of the operation ahead are the same
    abbrev pub SameValues : Ops → Env → Type 0
    SameValues OpsEnd env = Unit {0}
    SameValues (Op form rs os ls regions rest) env = lookups (map to os) env ≡ lookups os env

    pub one_step_to : (ops : Ops) (blocks : Blocks) (env : Env) (frames : List Frame) (m : State) → SameValues ops env
        → step_at ask (ops_to ops) (blocks_to blocks) env (frames_to frames) m ≡ step_to (step_at ask ops blocks env frames m)
    one_step_to OpsEnd blocks env frames m same = refl
    one_step_to (Op form rs os ls regions rest) blocks env frames m same =
        ap (λ o. stepping (present o) m (λ xs. acts ask form rs xs ls (regions_to regions) (record { results = rs; rest = ops_to rest; blocks = blocks_to blocks }) env (frames_to frames) m)) same
        ∙ stepping_to (present (lookups os env)) m _ _ (λ xs. acts_to rs ls regions (record { results = rs; rest = rest; blocks = blocks }) env frames m form xs)
