-- Places that are the same but for numbers make the same steps.
use Rattle.std.proofs.Common.{ℕ, Bool, true, false, List, [], ◌∷◌, Option, sym, subst}
use Rattle.plain_tree.specs.Renamings.{RenAll, OneToOne}
use Rattle.number_model.specs.Answers.{Answer, Gives, and_then, present, undefined_if}
use Rattle.number_model.specs.Answers.{Answer as answer}
use Rattle.operation_model.specs.Values.{Value, Integer, number}
use Rattle.operation_model.specs.Pures.{truth}
use Rattle.operation_model.specs.Doings.{Doing, Question}
use Rattle.operation_model.specs.Forms.{Form, If, For, While, Switch, Execute, Yield, Condition}
use Rattle.operation_model.specs.Straight.{does}
use Rattle.form_model.specs.Codes.{Ops, Blocks, Regions, Target, Env, lookups, bind, region_at}
use Rattle.machine_model.specs.Worlds.{Stop, Reply, Answers, Refuses}
use Rattle.machine_model.specs.Machine.{Spot, Behind, Counting, Frame, Once, Body, Before, After, Place, Step, Goes, Calls, Returns, Stops, acts, at_block, case_of, decided, decides, enters, enters_once, first_if, has_round, is_no_step, leaves, next_number, on_reply, performs, step, step_at, stepping, tested, turns, within, yields}
use Rattle.run_renames.proofs.RenamedCodes.{BothHave, neither_has, both_have, CodeBlocks, no_block, one_block, CodeOps, no_code, one_code, CodeRegions, EnvRen, TargetRen, bind_ren, entry_ren, find_ren, lookups_same, region_ren}
use Rattle.run_renames.proofs.RenamedDoings.{DoingRen, same_ends, ren_asks, ren_calls, ren_jumps, same_returns, same_undefined, same_outside, does_ren}

-- Places

pub record SpotRen (R L : ℕ → ℕ → Type 0) (s t : Spot) : Type 0 where
  pub ops : CodeOps R L s.ops t.ops
  pub blocks : CodeBlocks R L s.blocks t.blocks
  pub env : EnvRen R s.env t.env

pub record BehindRen (R L : ℕ → ℕ → Type 0) (b c : Behind) : Type 0 where
  pub results : RenAll R b.results c.results
  pub rest : CodeOps R L b.rest c.rest
  pub blocks : CodeBlocks R L b.blocks c.blocks

pub data FramesRen (R L : ℕ → ℕ → Type 0) : List Frame → List Frame → Type 0 where
  no_frame : FramesRen R L [] []
  once_ren : {b c : Behind} {fs gs : List Frame} → BehindRen R L b c → FramesRen R L fs gs → FramesRen R L (Once b ∷ fs) (Once c ∷ gs)
  body_ren : {w upper by i : ℕ} {x y : Blocks} {b c : Behind} {fs gs : List Frame} → CodeBlocks R L x y → BehindRen R L b c → FramesRen R L fs gs
      → FramesRen R L (Body (record { width = w; upper = upper; by = by; body = x }) i b ∷ fs) (Body (record { width = w; upper = upper; by = by; body = y }) i c ∷ gs)
  before_ren : {x y u v : Blocks} {b c : Behind} {fs gs : List Frame} → CodeBlocks R L x y → CodeBlocks R L u v → BehindRen R L b c → FramesRen R L fs gs
      → FramesRen R L (Before (record { before = x; after = u }) b ∷ fs) (Before (record { before = y; after = v }) c ∷ gs)
  after_ren : {x y u v : Blocks} {b c : Behind} {fs gs : List Frame} → CodeBlocks R L x y → CodeBlocks R L u v → BehindRen R L b c → FramesRen R L fs gs
      → FramesRen R L (After (record { before = x; after = u }) b ∷ fs) (After (record { before = y; after = v }) c ∷ gs)

pub record PlaceRen (R L : ℕ → ℕ → Type 0) (p q : Place) : Type 0 where
  pub spot : SpotRen R L p.spot q.spot
  pub frames : FramesRen R L p.frames q.frames

-- Steps

-- the same step, to spots or places that go together
pub data StepRen (R L : ℕ → ℕ → Type 0) {P State : Type 0} (Q : P → P → Type 0) : Step P State → Step P State → Type 0 where
  goes_ren : {p q : P} {m : State} → Q p q → StepRen R L Q (Goes p m) (Goes q m)
  calls_ren : {f : List ℕ} {xs : List Value} {k j : List Value → Doing} {rs ss : List ℕ} {p q : P} {m : State} → ((ys : List Value) → DoingRen L (k ys) (j ys)) → RenAll R rs ss → Q p q
      → StepRen R L Q (Calls f xs k rs p m) (Calls f xs j ss q m)
  same_return : {xs : List Value} {m : State} → StepRen R L Q (Returns xs m) (Returns xs m)
  same_stop : {e : Stop} {m : State} → StepRen R L Q (Stops e m) (Stops e m)

module _ (R L : ℕ → ℕ → Type 0) (one : OneToOne R) (labels : OneToOne L) {State : Type 0} (ask : Question → State → Reply State) where
  module _ {P : Type 0} (Q : P → P → Type 0) where
    stepping_ren : {A : Type 0} (a : Answer A) (m : State) (next after : A → Step P State) → ((x : A) → StepRen R L Q (next x) (after x)) → StepRen R L Q (stepping a m next) (stepping a m after)
    stepping_ren (Gives x) m next after h = h x
    stepping_ren answer.Undefined m next after h = same_stop
    stepping_ren answer.Outside m next after h = same_stop

    both_ren : {A : Type 0} {B : A → A → Type 0} {o x : Option A} (m : State) (next after : A → Step P State) → BothHave B o x → ((a b : A) → B a b → StepRen R L Q (next a) (after b))
        → StepRen R L Q (stepping (present o) m next) (stepping (present x) m after)
    both_ren m next after neither_has h = same_stop
    both_ren m next after (both_have {x = a} {y = b} r) h = h a b r

    reply_ren : (m : State) (r : Reply State) (next after : List Value → State → Step P State) → ((ys : List Value) (m1 : State) → StepRen R L Q (next ys m1) (after ys m1))
        → StepRen R L Q (on_reply m r next) (on_reply m r after)
    reply_ren m (Answers ys m1) next after h = h ys m1
    reply_ren m (Refuses e) next after h = same_stop

  abbrev Spots : Step Spot State → Step Spot State → Type 0
  Spots = StepRen R L (SpotRen R L)

  abbrev Places : Step Place State → Step Place State → Type 0
  Places = StepRen R L (PlaceRen R L)

  pub within_ren : {fs gs : List Frame} {s t : Step Spot State} → FramesRen R L fs gs → Spots s t → Places (within fs s) (within gs t)
  within_ren frames (goes_ren spot) = goes_ren (record { spot = spot; frames = frames })
  within_ren frames (calls_ren more results spot) = calls_ren more results (record { spot = spot; frames = frames })
  within_ren frames same_return = same_return
  within_ren frames same_stop = same_stop

  pub performs_ren : {d e : Doing} {rs ss : List ℕ} {s t : Spot} → DoingRen L d e → RenAll R rs ss → SpotRen R L s t → (m : State) → Spots (performs ask d rs s m) (performs ask e ss t m)
  performs_ren {s = s} {t = t} (same_ends {ys = ys}) results spot m =
      both_ren (SpotRen R L) m (λ env. Goes (record { ops = s.ops; blocks = s.blocks; env = env }) m) (λ env. Goes (record { ops = t.ops; blocks = t.blocks; env = env }) m)
      (bind_ren results ys spot.env) (λ e d env. goes_ren (record { ops = spot.ops; blocks = spot.blocks; env = env }))
  performs_ren {rs = rs} {ss = ss} {s = s} {t = t} (ren_asks {q = q} {k = k} {j = j} more) results spot m =
      reply_ren (SpotRen R L) m (ask q m) (λ ys m1. performs ask (k ys) rs s m1) (λ ys m1. performs ask (j ys) ss t m1) (λ ys m1. performs_ren (more ys) results spot m1)
  performs_ren (ren_calls more) results spot m = calls_ren more results spot
  performs_ren {s = s} {t = t} (ren_jumps {l = l} {m = h} {ys = ys} e) results spot m =
      both_ren (SpotRen R L) m (at_block ys s m) (at_block ys t m) (find_ren l h labels e spot.blocks) (λ x y target.
      both_ren (SpotRen R L) m (λ env. Goes (record { ops = x.ops; blocks = s.blocks; env = env }) m) (λ env. Goes (record { ops = y.ops; blocks = t.blocks; env = env }) m)
      (bind_ren target.args ys spot.env) (λ e d env. goes_ren (record { ops = target.ops; blocks = spot.blocks; env = env })))
  performs_ren same_returns results spot m = same_return
  performs_ren same_undefined results spot m = same_stop
  performs_ren same_outside results spot m = same_stop

  -- Regions

  module _ {env other : Env} (values : EnvRen R env other) (m : State) where
    enters_ren : {b c : Blocks} {fs gs : List Frame} (xs : List Value) → CodeBlocks R L b c → FramesRen R L fs gs → Places (enters b xs env fs m) (enters c xs other gs m)
    enters_ren {b = b} {c = c} {fs = fs} {gs = gs} xs blocks frames =
        both_ren (PlaceRen R L) m
        (λ t. stepping (present (bind t.args xs env)) m (λ inner. Goes (record { spot = record { ops = t.ops; blocks = b; env = inner }; frames = fs }) m))
        (λ t. stepping (present (bind t.args xs other)) m (λ inner. Goes (record { spot = record { ops = t.ops; blocks = c; env = inner }; frames = gs }) m))
        (entry_ren blocks) (λ x y target.
        both_ren (PlaceRen R L) m
        (λ inner. Goes (record { spot = record { ops = x.ops; blocks = b; env = inner }; frames = fs }) m) (λ inner. Goes (record { spot = record { ops = y.ops; blocks = c; env = inner }; frames = gs }) m)
        (bind_ren target.args xs values) (λ e d inner. goes_ren (record { spot = record { ops = target.ops; blocks = blocks; env = inner }; frames = frames })))

    leaves_ren : {b c : Behind} {fs gs : List Frame} (xs : List Value) → BehindRen R L b c → FramesRen R L fs gs → Places (leaves b xs env fs m) (leaves c xs other gs m)
    leaves_ren {b = b} {c = c} {fs = fs} {gs = gs} xs behind frames =
        both_ren (PlaceRen R L) m
        (λ outer. Goes (record { spot = record { ops = b.rest; blocks = b.blocks; env = outer }; frames = fs }) m) (λ outer. Goes (record { spot = record { ops = c.rest; blocks = c.blocks; env = outer }; frames = gs }) m)
        (bind_ren behind.results xs values) (λ e d outer. goes_ren (record { spot = record { ops = behind.rest; blocks = behind.blocks; env = outer }; frames = frames }))

    enters_once_ren : {x y : Blocks} {b c : Behind} {fs gs : List Frame} → CodeBlocks R L x y → BehindRen R L b c → FramesRen R L fs gs → Places (enters_once x b env fs m) (enters_once y c other gs m)
    enters_once_ren no_block behind frames = leaves_ren [] behind frames
    enters_once_ren (one_block l args ops rest) behind frames = enters_ren [] (one_block l args ops rest) (once_ren behind frames)

  tested_ren : {x y : Blocks} {b c : Behind} {fs gs : List Frame} {t u : Target} {e d : Env} (m : State) (w upper by i : ℕ) (xs : List Value) → CodeBlocks R L x y → BehindRen R L b c → FramesRen R L fs gs
      → TargetRen R L t u → EnvRen R e d → (round : Bool)
      → Places (tested round t (record { width = w; upper = upper; by = by; body = x }) i xs b e fs m) (tested round u (record { width = w; upper = upper; by = by; body = y }) i xs c d gs m)
  tested_ren m w upper by i xs body behind frames target inner true =
      goes_ren (record { spot = record { ops = target.ops; blocks = body; env = inner }; frames = body_ren body behind frames })
  tested_ren m w upper by i xs body behind frames target inner false = leaves_ren inner m xs behind frames

  module _ {env other : Env} (values : EnvRen R env other) (m : State) where
    turns_ren : {x y : Blocks} {b c : Behind} {fs gs : List Frame} (w upper by i : ℕ) (xs : List Value) → CodeBlocks R L x y → BehindRen R L b c → FramesRen R L fs gs
        → Places (turns (record { width = w; upper = upper; by = by; body = x }) i xs b env fs m) (turns (record { width = w; upper = upper; by = by; body = y }) i xs c other gs m)
    turns_ren {x = x} {y = y} {b = b} {c = c} {fs = fs} {gs = gs} w upper by i xs body behind frames =
        let here : Counting = record { width = w; upper = upper; by = by; body = x } in
        let there : Counting = record { width = w; upper = upper; by = by; body = y } in
        both_ren (PlaceRen R L) m
        (λ t. stepping (present (bind t.args (Integer i ∷ xs) env)) m (λ inner. tested (has_round here i) t here i xs b inner fs m))
        (λ t. stepping (present (bind t.args (Integer i ∷ xs) other)) m (λ inner. tested (has_round there i) t there i xs c inner gs m))
        (entry_ren body) (λ t u target.
        both_ren (PlaceRen R L) m (λ inner. tested (has_round here i) t here i xs b inner fs m) (λ inner. tested (has_round there i) u there i xs c inner gs m)
        (bind_ren target.args (Integer i ∷ xs) values) (λ e d inner. tested_ren m w upper by i xs body behind frames target inner (has_round here i)))

    -- the end of a region under way
    yields_ren : {fs gs : List Frame} (xs : List Value) → FramesRen R L fs gs → Places (yields xs env fs m) (yields xs other gs m)
    yields_ren xs no_frame = same_stop
    yields_ren xs (once_ren behind frames) = leaves_ren values m xs behind frames
    yields_ren xs (body_ren {w = w} {upper = upper} {by = by} {i = i} {x = x} body behind frames) =
        stepping_ren (PlaceRen R L) (next_number (record { width = w; upper = upper; by = by; body = x }) i) m _ _ (λ next. turns_ren w upper by next xs body behind frames)
    yields_ren xs (before_ren before after behind frames) = same_stop
    yields_ren xs (after_ren before after behind frames) = enters_ren values m xs before (before_ren before after behind frames)

    decided_ren : {x y u v : Blocks} {b c : Behind} {fs gs : List Frame} (xs : List Value) → CodeBlocks R L x y → CodeBlocks R L u v → BehindRen R L b c → FramesRen R L fs gs → (holds : Bool)
        → Places (decided holds (record { before = x; after = u }) xs b env fs m) (decided holds (record { before = y; after = v }) xs c other gs m)
    decided_ren xs before after behind frames true = enters_ren values m xs after (after_ren before after behind frames)
    decided_ren xs before after behind frames false = leaves_ren values m xs behind frames

    decides_ren : {fs gs : List Frame} (c : Value) (xs : List Value) → FramesRen R L fs gs → Places (decides c xs env fs m) (decides c xs other gs m)
    decides_ren c xs no_frame = same_stop
    decides_ren c xs (once_ren behind frames) = same_stop
    decides_ren c xs (body_ren body behind frames) = same_stop
    decides_ren c xs (before_ren before after behind frames) = stepping_ren (PlaceRen R L) (truth c) m _ _ (decided_ren xs before after behind frames)
    decides_ren c xs (after_ren before after behind frames) = same_stop

    -- One operation

    module _ {b c : Behind} (behind : BehindRen R L b c) {fs gs : List Frame} (frames : FramesRen R L fs gs) {r s : Regions} (held : CodeRegions R L r s) where
      abbrev loop_from : ℕ → Answer ℕ → Answer ℕ → Answer ℕ → Blocks → Answer (ℕ × Counting)
      loop_from w i j k body =
          and_then i (λ lower. and_then j (λ upper. and_then k (λ by.
          undefined_if (is_no_step w by) (Gives (lower, record { width = w; upper = upper; by = by; body = body })))))

      counts_ren : (w lower upper by : ℕ) (none : Bool) (xs : List Value)
          → Places (stepping (undefined_if {A = ℕ × Counting} none (Gives (lower, record { width = w; upper = upper; by = by; body = region_at 0 r }))) m (λ start. turns start.1 start.0 xs b env fs m))
          (stepping (undefined_if {A = ℕ × Counting} none (Gives (lower, record { width = w; upper = upper; by = by; body = region_at 0 s }))) m (λ start. turns start.1 start.0 xs c other gs m))
      counts_ren w lower upper by true xs = same_stop
      counts_ren w lower upper by false xs = turns_ren w upper by lower xs (region_ren 0 held) behind frames

      loop_ren : (w : ℕ) (i j k : Answer ℕ) (xs : List Value)
          → Places (stepping (loop_from w i j k (region_at 0 r)) m (λ start. turns start.1 start.0 xs b env fs m)) (stepping (loop_from w i j k (region_at 0 s)) m (λ start. turns start.1 start.0 xs c other gs m))
      loop_ren w (Gives i) (Gives j) (Gives k) xs = counts_ren w i j k (is_no_step w k) xs
      loop_ren w (Gives i) (Gives j) answer.Undefined xs = same_stop
      loop_ren w (Gives i) (Gives j) answer.Outside xs = same_stop
      loop_ren w (Gives i) answer.Undefined k xs = same_stop
      loop_ren w (Gives i) answer.Outside k xs = same_stop
      loop_ren w answer.Undefined j k xs = same_stop
      loop_ren w answer.Outside j k xs = same_stop

      straight_ren : {rs ss ls ms : List ℕ} (form : Form) (xs : List Value) → RenAll R rs ss → RenAll L ls ms
          → Places (within fs (performs ask (does form ls xs) rs (record { ops = b.rest; blocks = b.blocks; env = env }) m)) (within gs (performs ask (does form ms xs) ss (record { ops = c.rest; blocks = c.blocks; env = other }) m))
      straight_ren form xs results successors = within_ren frames (performs_ren (does_ren L form successors xs) results (record { ops = behind.rest; blocks = behind.blocks; env = values }) m)

      acts_ren : {rs ss ls ms : List ℕ} (form : Form) (xs : List Value) → RenAll R rs ss → RenAll L ls ms → Places (acts ask form rs xs ls r b env fs m) (acts ask form ss xs ms s c other gs m)
      acts_ren If (x ∷ []) results successors = stepping_ren (PlaceRen R L) (truth x) m _ _ (λ holds. enters_once_ren values m (region_ren (first_if holds) held) behind frames)
      acts_ren (For w) (x ∷ y ∷ z ∷ xs) results successors = loop_ren w (number x) (number y) (number z) xs
      acts_ren While xs results successors = enters_ren values m xs (region_ren 0 held) (before_ren (region_ren 0 held) (region_ren 1 held) behind frames)
      acts_ren (Switch w cases) (x ∷ []) results successors = stepping_ren (PlaceRen R L) (number x) m _ _ (λ n. enters_once_ren values m (region_ren (case_of w n 1 cases) held) behind frames)
      acts_ren Execute [] results successors = enters_ren values m [] (region_ren 0 held) (once_ren behind frames)
      acts_ren Yield xs results successors = yields_ren xs frames
      acts_ren Condition (x ∷ xs) results successors = decides_ren x xs frames
      acts_ren form xs results successors = straight_ren form xs results successors

  at_ren : {x y : Ops} {b c : Blocks} {env other : Env} {fs gs : List Frame} → CodeOps R L x y → CodeBlocks R L b c → EnvRen R env other → FramesRen R L fs gs → (m : State)
      → Places (step_at ask x b env fs m) (step_at ask y c other gs m)
  at_ren no_code blocks values frames m = same_stop
  at_ren {b = b} {c = c} {env = env} {other = other} {fs = fs} {gs = gs} (one_code {form = form} {rs = rs} {ss = ss} {os = os} {ps = ps} {ls = ls} {ms = ms} {r = r} {s = s} {rest = rest} {more = more} results operands successors held ahead) blocks values frames m =
      let here : List Value → Step Place State = λ xs. acts ask form rs xs ls r (record { results = rs; rest = rest; blocks = b }) env fs m in
      let there : List Value → Step Place State = λ xs. acts ask form ss xs ms s (record { results = ss; rest = more; blocks = c }) other gs m in
      subst (λ o. Places (stepping (present o) m here) (stepping (present (lookups ps other)) m there)) (sym (lookups_same one operands values))
      (stepping_ren (PlaceRen R L) (present (lookups ps other)) m here there
      (λ xs. acts_ren values m (record { results = results; rest = ahead; blocks = blocks }) frames held form xs results successors))

  -- one step
  pub step_ren : {p q : Place} → PlaceRen R L p q → (m : State) → Places (step ask p m) (step ask q m)
  step_ren place m = at_ren place.spot.ops place.spot.blocks place.spot.env place.frames m
