-- A predicate on places that each step keeps.
use Rattle.std.proofs.Common.{◌≡◌, ℕ, Bool, true, false, List, [], ◌∷◌, Option, Some, None, refl, sym, ap, ◌∙◌, subst}
use Rattle.number_model.specs.Answers.{Answer, Gives, and_then, present, undefined_if}
use Rattle.number_model.specs.Answers.{Answer as answer}
use Rattle.operation_model.specs.Values.{Value, Integer, number}
use Rattle.operation_model.specs.Pures.{truth}
use Rattle.operation_model.specs.Doings.{Doing, Ends, Asks, Jumps, Question}
use Rattle.operation_model.specs.Doings.{Doing as doing}
use Rattle.operation_model.specs.Forms.{Form, If, For, While, Switch, Execute, Yield, Condition}
use Rattle.operation_model.specs.Straight.{does}
use Rattle.form_model.specs.Codes.{Ops, OpsEnd, Op, Blocks, BlocksEnd, Block, Regions, Target, Env, entry, find_block, lookups, bind, region_at}
use Rattle.machine_model.specs.Worlds.{Stop, Reply, Answers, Refuses}
use Rattle.machine_model.specs.Machine.{Spot, Behind, Counting, Frame, Once, Body, Before, After, Place, Step, Goes, Calls, Returns, Stops, acts, at_block, case_of, decided, decides, enters, enters_once, first_if, has_round, is_no_step, leaves, next_number, on_reply, performs, step_at, stepping, tested, turns, within, yields}
use Rattle.rule_model.specs.Words.{has}
use Rattle.cast_laws.proofs.Doings.{DoingIs, Holds, IsEnd, IsMove, does_is, holds_more, holds_on}

-- what waits behind the operation whose region is under way
abbrev pub behind_of : Frame → Behind
behind_of (Once b) = b
behind_of (Body c i b) = b
behind_of (Before l b) = b
behind_of (After l b) = b

-- regions that are entered again are those of the operation
abbrev pub BodiesOf : Frame → Regions → Type 0
BodiesOf (Once b) regions = Unit {0}
BodiesOf (Body c i b) regions = c.body ≡ region_at 0 regions
BodiesOf (Before l b) regions = (l.before ≡ region_at 0 regions) × (l.after ≡ region_at 1 regions)
BodiesOf (After l b) regions = (l.before ≡ region_at 0 regions) × (l.after ≡ region_at 1 regions)

-- predicates on places: the operations ahead, the blocks of their region, the values and the regions under way
abbrev pub Invariant : Type 1
Invariant = Ops → Blocks → Env → List Frame → Type 0

-- at an operation that holds the region under way, with the values that there are now
pub record Outward (I : Invariant) (frame : Frame) (env : Env) (frames : List Frame) : Type 0 where
  pub form : Form
  pub operands : List ℕ
  pub labels : List ℕ
  pub regions : Regions
  pub there : I (Op form (behind_of frame).results operands labels regions (behind_of frame).rest) (behind_of frame).blocks env frames
  pub holds : Holds form
  pub bodies : BodiesOf frame regions

-- such a predicate: it is kept behind an operation, in the block of a successor, in a region of the operation, and from a region at what holds it
pub record Closed (I : Invariant) : Type 0 where
  pub passes : {form : Form} {rs os ls : List ℕ} {regions : Regions} {rest : Ops} {b : Blocks} {env : Env} {frames : List Frame} → I (Op form rs os ls regions rest) b env frames → (IsEnd form → ⊥) → (ys : List Value) → (IsMove form → lookups os env ≡ Some ys)
      → (e : Env) → bind rs ys env ≡ Some e → I rest b e frames
  pub jumps : {form : Form} {rs os ls : List ℕ} {regions : Regions} {rest : Ops} {b : Blocks} {env : Env} {frames : List Frame} → I (Op form rs os ls regions rest) b env frames → (l : ℕ) → has l ls ≡ true → (t : Target) → find_block l b ≡ Some t
      → (ys : List Value) (e : Env) → bind t.args ys env ≡ Some e → I t.ops b e frames
  pub enters : {form : Form} {rs os ls : List ℕ} {regions : Regions} {rest : Ops} {b : Blocks} {env : Env} {frames : List Frame} → I (Op form rs os ls regions rest) b env frames → Holds form → (i : ℕ) (t : Target) → entry (region_at i regions) ≡ Some t
      → (xs : List Value) (e : Env) → bind t.args xs env ≡ Some e → (frame : Frame) → behind_of frame ≡ record { results = rs; rest = rest; blocks = b } → BodiesOf frame regions → I t.ops (region_at i regions) e (frame ∷ frames)
  pub leaves : {ops : Ops} {b : Blocks} {env : Env} {frames : List Frame} (frame : Frame) → I ops b env (frame ∷ frames) → Outward I frame env frames

module _ {State : Type 0} (ask : Question → State → Reply State) (I : Invariant) where
  abbrev pub Stands : Place → Type 0
  Stands p = I p.spot.ops p.spot.blocks p.spot.env p.frames

  -- behind a call that has returned
  abbrev pub SettledKeeps : Step Place State → Type 0
  SettledKeeps (Goes p m) = Stands p
  SettledKeeps _ = Unit {0}

  abbrev pub StepKeeps : Step Place State → Type 0
  StepKeeps (Goes p m) = Stands p
  StepKeeps (Calls f xs k rs p m) = (ys : List Value) (m1 : State) → SettledKeeps (within p.frames (performs ask (k ys) rs p.spot m1))
  StepKeeps (Returns xs m) = Unit {0}
  StepKeeps (Stops e m) = Unit {0}

  stepping_keeps : {A : Type 0} (a : Answer A) (m : State) (f : A → Step Place State) → ((x : A) → StepKeeps (f x)) → StepKeeps (stepping a m f)
  stepping_keeps (Gives x) m f h = h x
  stepping_keeps answer.Undefined m f h = tt
  stepping_keeps answer.Outside m f h = tt

  -- where something is there
  there_keeps : {A : Type 0} (o : Option A) (m : State) (f : A → Step Place State) → ((x : A) → o ≡ Some x → StepKeeps (f x)) → StepKeeps (stepping (present o) m f)
  there_keeps None m f h = tt
  there_keeps (Some x) m f h = h x refl

  module _ (closed : Closed I) where
    -- at an operation with regions
    module _ {form : Form} {rs os ls : List ℕ} {regions : Regions} {rest : Ops} {b : Blocks} {env : Env} {frames : List Frame} (here : I (Op form rs os ls regions rest) b env frames) (holds : Holds form) (m : State) where
      abbrev behind : Behind
      behind = record { results = rs; rest = rest; blocks = b }

      leaves_keeps : (xs : List Value) → StepKeeps (leaves behind xs env frames m)
      leaves_keeps xs = there_keeps (bind rs xs env) m _ (λ e is. closed.passes here (holds_on form holds) xs (λ moves. absurd (holds_more form holds moves)) e is)

      enters_keeps : (i : ℕ) (xs : List Value) (frame : Frame) → behind_of frame ≡ behind → BodiesOf frame regions → StepKeeps (enters (region_at i regions) xs env (frame ∷ frames) m)
      enters_keeps i xs frame is bodies =
          there_keeps (entry (region_at i regions)) m _ (λ t first. there_keeps (bind t.args xs env) m _ (λ e bound. closed.enters here holds i t first xs e bound frame is bodies))

      once_keeps : (i : ℕ) → StepKeeps (enters_once (region_at i regions) behind env frames m)
      once_keeps i = go (region_at i regions) (enters_keeps i [] (Once behind) refl tt)
        where
          go : (x : Blocks) → StepKeeps (enters x [] env (Once behind ∷ frames) m) → StepKeeps (enters_once x behind env frames m)
          go BlocksEnd h = leaves_keeps []
          go (Block l args ops more) h = h

    -- at the end of a region, with the values of the place
    outward_leaves : {ops : Ops} {blocks : Blocks} {env : Env} {frames : List Frame} (frame : Frame) → I ops blocks env (frame ∷ frames) → (xs : List Value) (m : State) → StepKeeps (leaves (behind_of frame) xs env frames m)
    outward_leaves frame here xs m = let o = closed.leaves frame here in leaves_keeps o.there o.holds m xs

    -- a counting loop at its test
    turns_keeps : {form : Form} {rs os ls : List ℕ} {regions : Regions} {rest : Ops} {b : Blocks} {env : Env} {frames : List Frame} → I (Op form rs os ls regions rest) b env frames → Holds form → (w upper by i : ℕ) (xs : List Value) (m : State)
        → StepKeeps (turns (record { width = w; upper = upper; by = by; body = region_at 0 regions }) i xs (record { results = rs; rest = rest; blocks = b }) env frames m)
    turns_keeps {rs = rs} {regions = regions} {rest = rest} {b = b} {env = env} {frames = frames} here holds w upper by i xs m =
        there_keeps (entry (region_at 0 regions)) m _ (λ t first. there_keeps (bind t.args (Integer i ∷ xs) env) m _
        (λ e bound. go (has_round (record { width = w; upper = upper; by = by; body = region_at 0 regions }) i) t e
        (closed.enters here holds 0 t first (Integer i ∷ xs) e bound (Body (record { width = w; upper = upper; by = by; body = region_at 0 regions }) i (record { results = rs; rest = rest; blocks = b })) refl refl)))
      where
        go : (round : Bool) (t : Target) (e : Env) → I t.ops (region_at 0 regions) e (Body (record { width = w; upper = upper; by = by; body = region_at 0 regions }) i (record { results = rs; rest = rest; blocks = b }) ∷ frames)
            → StepKeeps (tested round t (record { width = w; upper = upper; by = by; body = region_at 0 regions }) i xs (record { results = rs; rest = rest; blocks = b }) e frames m)
        go true t e inner = inner
        go false t e inner = outward_leaves (Body (record { width = w; upper = upper; by = by; body = region_at 0 regions }) i (record { results = rs; rest = rest; blocks = b })) inner xs m

    -- such a loop from its body
    again_keeps : (c : Counting) (b : Behind) (form : Form) (os ls : List ℕ) (regions : Regions) {env : Env} {frames : List Frame} → I (Op form b.results os ls regions b.rest) b.blocks env frames → Holds form → c.body ≡ region_at 0 regions
        → (i : ℕ) (xs : List Value) (m : State) → StepKeeps (turns c i xs b env frames m)
    again_keeps c b form os ls regions {env = env} {frames = frames} here holds same i xs m =
        subst (λ x. StepKeeps (turns (record { width = c.width; upper = c.upper; by = c.by; body = x }) i xs b env frames m)) (sym same) (turns_keeps here holds c.width c.upper c.by i xs m)

    -- into a region of the operation that holds this one
    module _ (frame : Frame) (b : Behind) (is : behind_of frame ≡ b) (form : Form) (os ls : List ℕ) (regions : Regions) (i : ℕ) where
      into_keeps : (x : Blocks) {env : Env} {frames : List Frame} → I (Op form b.results os ls regions b.rest) b.blocks env frames → Holds form → x ≡ region_at i regions → BodiesOf frame regions
          → (xs : List Value) (m : State) → StepKeeps (enters x xs env (frame ∷ frames) m)
      into_keeps x {env = env} {frames = frames} here holds same bodies xs m = subst (λ y. StepKeeps (enters y xs env (frame ∷ frames) m)) (sym same) (enters_keeps here holds m i xs frame is bodies)

    yields_keeps : {ops : Ops} {blocks : Blocks} {env : Env} (frames : List Frame) → I ops blocks env frames → (xs : List Value) (m : State) → StepKeeps (yields xs env frames m)
    yields_keeps [] here xs m = tt
    yields_keeps (Once b ∷ frames) here xs m = outward_leaves (Once b) here xs m
    yields_keeps (Body c i b ∷ frames) here xs m =
        let o = closed.leaves (Body c i b) here in
        stepping_keeps (next_number c i) m _ (λ next. again_keeps c b o.form o.operands o.labels o.regions o.there o.holds o.bodies next xs m)
    yields_keeps (Before l b ∷ frames) here xs m = tt
    yields_keeps (After l b ∷ frames) here xs m =
        let o = closed.leaves (After l b) here in
        into_keeps (Before l b) b refl o.form o.operands o.labels o.regions 0 l.before o.there o.holds o.bodies.0 o.bodies xs m

    decides_keeps : {ops : Ops} {blocks : Blocks} {env : Env} (frames : List Frame) → I ops blocks env frames → (c : Value) (xs : List Value) (m : State) → StepKeeps (decides c xs env frames m)
    decides_keeps [] here c xs m = tt
    decides_keeps (Once b ∷ frames) here c xs m = tt
    decides_keeps (Body k i b ∷ frames) here c xs m = tt
    decides_keeps {env = env} (Before l b ∷ frames) here c xs m = stepping_keeps (truth c) m _ go
      where
        go : (holds : Bool) → StepKeeps (decided holds l xs b env frames m)
        go true =
            let o = closed.leaves (Before l b) here in
            into_keeps (After l b) b refl o.form o.operands o.labels o.regions 1 l.after o.there o.holds o.bodies.1 o.bodies xs m
        go false = outward_leaves (Before l b) here xs m
    decides_keeps (After l b ∷ frames) here c xs m = tt

    -- at an operation without regions
    module _ {form : Form} {rs os ls : List ℕ} {regions : Regions} {rest : Ops} {b : Blocks} {env : Env} {frames : List Frame} (here : I (Op form rs os ls regions rest) b env frames) where
      abbrev spot : Spot
      spot = record { ops = rest; blocks = b; env = env }

      -- values with which the place behind it stands
      abbrev Fine : List Value → Type 0
      Fine ys = (e : Env) → bind rs ys env ≡ Some e → I rest b e frames

      module _ (K : Step Place State → Type 0) (goes : (p : Place) (m : State) → Stands p → K (Goes p m)) (stops : (e : Stop) (m : State) → K (Stops e m)) where
        ends_keeps : (ys : List Value) (m : State) → Fine ys → K (within frames (performs ask (Ends ys) rs spot m))
        ends_keeps ys m h = go (bind rs ys env) refl
          where
            go : (o : Option Env) → bind rs ys env ≡ o → K (within frames (stepping (present o) m (λ e. Goes (record { ops = rest; blocks = b; env = e }) m)))
            go None is = stops _ m
            go (Some e) is = goes _ m (h e is)

        jumps_keeps : (l : ℕ) (ys : List Value) (m : State) → has l ls ≡ true → K (within frames (performs ask (Jumps l ys) rs spot m))
        jumps_keeps l ys m among = go (find_block l b) refl
          where
            into : (t : Target) → find_block l b ≡ Some t → (o : Option Env) → bind t.args ys env ≡ o → K (within frames (stepping (present o) m (λ e. Goes (record { ops = t.ops; blocks = b; env = e }) m)))
            into t found None is = stops _ m
            into t found (Some e) is = goes _ m (closed.jumps here l among t found ys e is)

            go : (o : Option Target) → find_block l b ≡ o → K (within frames (stepping (present o) m (at_block ys spot m)))
            go None found = stops _ m
            go (Some t) found = into t found (bind t.args ys env) refl

      settled_keeps : (d : Doing) (m : State) → DoingIs Fine ls d → SettledKeeps (within frames (performs ask d rs spot m))
      settled_keeps (Ends ys) m h = ends_keeps SettledKeeps (λ p m1 s. s) (λ e m1. tt) ys m h
      settled_keeps (Asks q k) m h = go (ask q m) (λ ys m1. settled_keeps (k ys) m1 (h ys))
        where
          go : (a : Reply State) → ((ys : List Value) (m1 : State) → SettledKeeps (within frames (performs ask (k ys) rs spot m1))) → SettledKeeps (within frames (on_reply m a (λ ys m1. performs ask (k ys) rs spot m1)))
          go (Answers ys m1) again = again ys m1
          go (Refuses e) again = tt
      settled_keeps (doing.Calls f xs k) m h = tt
      settled_keeps (Jumps l ys) m h = jumps_keeps SettledKeeps (λ p m1 s. s) (λ e m1. tt) l ys m h
      settled_keeps (doing.Returns ys) m h = tt
      settled_keeps doing.Undefined m h = tt
      settled_keeps doing.Outside m h = tt

      performs_keeps : (d : Doing) (m : State) → DoingIs Fine ls d → StepKeeps (within frames (performs ask d rs spot m))
      performs_keeps (Ends ys) m h = ends_keeps StepKeeps (λ p m1 s. s) (λ e m1. tt) ys m h
      performs_keeps (Asks q k) m h = go (ask q m) (λ ys m1. performs_keeps (k ys) m1 (h ys))
        where
          go : (a : Reply State) → ((ys : List Value) (m1 : State) → StepKeeps (within frames (performs ask (k ys) rs spot m1))) → StepKeeps (within frames (on_reply m a (λ ys m1. performs ask (k ys) rs spot m1)))
          go (Answers ys m1) again = again ys m1
          go (Refuses e) again = tt
      performs_keeps (doing.Calls f xs k) m h = λ ys m1. settled_keeps (k ys) m1 (h ys)
      performs_keeps (Jumps l ys) m h = jumps_keeps StepKeeps (λ p m1 s. s) (λ e m1. tt) l ys m h
      performs_keeps (doing.Returns ys) m h = tt
      performs_keeps doing.Undefined m h = tt
      performs_keeps doing.Outside m h = tt

      straight_keeps : (xs : List Value) → lookups os env ≡ Some xs → (m : State) → StepKeeps (within frames (performs ask (does form ls xs) rs spot m))
      straight_keeps xs found m = performs_keeps (does form ls xs) m (does_is Fine ls form xs (λ ys follows e bound. closed.passes here follows.0 ys (λ moves. found ∙ ap Some (follows.1 moves)) e bound))

    begins_keeps : {w : ℕ} {rs os ls : List ℕ} {regions : Regions} {rest : Ops} {b : Blocks} {env : Env} {frames : List Frame} → I (Op (For w) rs os ls regions rest) b env frames → (lower upper by : ℕ) (none : Bool) (xs : List Value) (m : State)
        → StepKeeps (stepping (undefined_if {A = ℕ × Counting} none (Gives (lower, record { width = w; upper = upper; by = by; body = region_at 0 regions }))) m (λ start. turns start.1 start.0 xs (record { results = rs; rest = rest; blocks = b }) env frames m))
    begins_keeps here lower upper by true xs m = tt
    begins_keeps {w = w} here lower upper by false xs m = turns_keeps here tt w upper by lower xs m

    abbrev loop_from : ℕ → Answer ℕ → Answer ℕ → Answer ℕ → Blocks → Answer (ℕ × Counting)
    loop_from w i j k body =
        and_then i (λ lower. and_then j (λ upper. and_then k (λ by.
        undefined_if (is_no_step w by) (Gives (lower, record { width = w; upper = upper; by = by; body = body })))))

    loop_keeps : {w : ℕ} {rs os ls : List ℕ} {regions : Regions} {rest : Ops} {b : Blocks} {env : Env} {frames : List Frame} → I (Op (For w) rs os ls regions rest) b env frames → (i j k : Answer ℕ) (xs : List Value) (m : State)
        → StepKeeps (stepping (loop_from w i j k (region_at 0 regions)) m (λ start. turns start.1 start.0 xs (record { results = rs; rest = rest; blocks = b }) env frames m))
    loop_keeps {w = w} here (Gives i) (Gives j) (Gives k) xs m = begins_keeps here i j k (is_no_step w k) xs m
    loop_keeps here (Gives i) (Gives j) answer.Undefined xs m = tt
    loop_keeps here (Gives i) (Gives j) answer.Outside xs m = tt
    loop_keeps here (Gives i) answer.Undefined k xs m = tt
    loop_keeps here (Gives i) answer.Outside k xs m = tt
    loop_keeps here answer.Undefined j k xs m = tt
    loop_keeps here answer.Outside j k xs m = tt

    module _ {rs os ls : List ℕ} {regions : Regions} {rest : Ops} {b : Blocks} {env : Env} {frames : List Frame} (m : State) where
      acts_keeps : (form : Form) (xs : List Value) → lookups os env ≡ Some xs → I (Op form rs os ls regions rest) b env frames → StepKeeps (acts ask form rs xs ls regions (record { results = rs; rest = rest; blocks = b }) env frames m)
      acts_keeps If (c ∷ []) found here = stepping_keeps (truth c) m _ (λ holds. once_keeps here tt m (first_if holds))
      acts_keeps If [] found here = tt
      acts_keeps If (c ∷ d ∷ xs) found here = tt
      acts_keeps (For w) (x ∷ y ∷ z ∷ xs) found here = loop_keeps here (number x) (number y) (number z) xs m
      acts_keeps (For w) [] found here = tt
      acts_keeps (For w) (x ∷ []) found here = tt
      acts_keeps (For w) (x ∷ y ∷ []) found here = tt
      acts_keeps While xs found here =
          enters_keeps here tt m 0 xs (Before (record { before = region_at 0 regions; after = region_at 1 regions }) (record { results = rs; rest = rest; blocks = b })) refl (refl, refl)
      acts_keeps (Switch w cases) (x ∷ []) found here = stepping_keeps (number x) m _ (λ n. once_keeps here tt m (case_of w n 1 cases))
      acts_keeps (Switch w cases) [] found here = tt
      acts_keeps (Switch w cases) (x ∷ y ∷ xs) found here = tt
      acts_keeps Execute [] found here = enters_keeps here tt m 0 [] (Once (record { results = rs; rest = rest; blocks = b })) refl tt
      acts_keeps Execute (x ∷ xs) found here = tt
      acts_keeps Yield xs found here = yields_keeps frames here xs m
      acts_keeps Condition (c ∷ xs) found here = decides_keeps frames here c xs m
      acts_keeps Condition [] found here = tt
      acts_keeps form xs found here = straight_keeps here xs found m

    -- Each step keeps it.
    pub step_keeps : (ops : Ops) (b : Blocks) (env : Env) (frames : List Frame) (m : State) → I ops b env frames → StepKeeps (step_at ask ops b env frames m)
    step_keeps OpsEnd b env frames m here = tt
    step_keeps (Op form rs os ls regions rest) b env frames m here = there_keeps (lookups os env) m _ (λ xs found. acts_keeps m form xs found here)
