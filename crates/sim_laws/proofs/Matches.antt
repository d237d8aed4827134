-- Each step of a function is matched by the one in which operations are replaced by lines.
use Rattle.std.proofs.Common.{◌≡◌, ◌⊎◌, inl, inr, ℕ, Bool, true, false, List, [], ◌∷◌, Option, Some, None, refl, sym, ap, subst}
use Rattle.number_model.specs.Answers.{Answer, Gives, and_then, present, undefined_if}
use Rattle.number_model.specs.Answers.{Answer as answer}
use Rattle.operation_model.specs.Values.{Value, Integer, number}
use Rattle.operation_model.specs.Pures.{truth}
use Rattle.operation_model.specs.Doings.{Doing, Ends, Asks, Jumps, Question}
use Rattle.operation_model.specs.Doings.{Doing as doing}
use Rattle.operation_model.specs.Forms.{Form, If, For, While, Switch, Execute, Yield, Condition}
use Rattle.operation_model.specs.Straight.{does}
use Rattle.form_model.specs.Codes.{Ops, OpsEnd, Op, Blocks, Block, Regions, Target, Env, Function, entry, find_block, lookups, bind, region_at}
use Rattle.machine_model.specs.Worlds.{Stop, More, Undefined, Outside, NoRoom, Reply, Answers, Refuses}
use Rattle.machine_model.specs.Machine.{Spot, Behind, Counting, Frame, Place, Step, Goes, Calls, Returns, Stops, acts, at_block, case_of, decided, decides, enters, enters_once, first_if, has_round, is_no_step, leaves, next_number, on_reply, performs, step, step_at, stepping, tested, turns, within, yields}
use Rattle.sim_laws.proofs.Simulation as sim
use Rattle.sim_laws.proofs.Lines.{Run, Ended, doing_run, line_run, place_at, Plays, line_plays, doing_plays, IsStructured, acts_does, jump_step}
use Rattle.sim_laws.proofs.Local.{Agree, BoundMatch, Meets, SameBehind, SameBlocks, SameFrames, SameOps, SamePlaces, SameRegions, SettledMeets, TargetMatch, TargetsMatch, bind_agree, entry_matches, find_matches, keeps, lookups_agree, meets_itself, all_blocks, SameEntry, same_entry, same_entry_end, regions_match, same_after, same_before, same_behind, same_body, same_end, same_frames_end, same_once, swaps}

-- what a memory refuses for makes a run undefined or outside
abbrev pub IsBad : Stop → Type 0
IsBad Undefined = Unit {0}
IsBad Outside = Unit {0}
IsBad _ = ⊥

module _ {State : Type 0} (ask : Question → State → Reply State) (refuses : (q : Question) (m : State) (e : Stop) → ask q m ≡ Refuses e → IsBad e) (fs fs' : List Function) where
  -- places that go together once the second machine has gone on, in the same memory
  pub record Near (p : Place) (m : State) (q : Place) (m' : State) : Type 1 where
    pub old : ℕ → Type 0
    pub place : Place
    pub leads : sim.Leads ask (Goes q m') (Goes place m')
    pub related : SamePlaces old p place
    pub same : m ≡ m'

  abbrev Same : State → State → Type 0
  Same m m' = m ≡ m'

  abbrev pub StepM : Step Place State → Step Place State → Type 1
  StepM = sim.StepMatch ask ask fs fs' Same Near

  abbrev nothing : sim.Up ask ask fs fs' Same Near (Unit {0})
  nothing = record { down = tt }

  lead_stop : (e : Stop) (m : State) (st st1 : Step Place State) → sim.Leads ask st st1 → sim.StopMatch ask ask fs fs' Same Near e m st1 → sim.StopMatch ask ask fs fs' Same Near e m st
  lead_stop Undefined m st st1 lead h = nothing
  lead_stop Outside m st st1 lead h = nothing
  lead_stop More m st st1 lead h = record { memory = h.memory; leads = sim.leads_on ask lead h.leads; worlds = h.worlds }
  lead_stop NoRoom m st st1 lead h = record { memory = h.memory; leads = sim.leads_on ask lead h.leads; worlds = h.worlds }

  pub lead_match : (x st st1 : Step Place State) → sim.Leads ask st st1 → StepM x st1 → StepM x st
  lead_match (Goes p m) st st1 lead h = record { place = h.place; memory = h.memory; leads = sim.leads_on ask lead h.leads; related = h.related }
  lead_match (Calls f xs k rs p m) st st1 lead h = record { caller = h.caller; memory = h.memory; leads = sim.leads_on ask lead h.leads; worlds = h.worlds; callers = h.callers }
  lead_match (Returns xs m) st st1 lead h = record { memory = h.memory; leads = sim.leads_on ask lead h.leads; worlds = h.worlds }
  lead_match (Stops e m) st st1 lead h = lead_stop e m st st1 lead h

  stepping_match : {A : Type 0} (a : Answer A) (m : State) (f f' : A → Step Place State) → ((x : A) → StepM (f x) (f' x)) → StepM (stepping a m f) (stepping a m f')
  stepping_match (Gives x) m f f' h = h x
  stepping_match answer.Undefined m f f' h = nothing
  stepping_match answer.Outside m f f' h = nothing

  within_stepping : {A : Type 0} (frames : List Frame) (a : Answer A) (m : State) (f : A → Step Spot State) → within frames (stepping a m f) ≡ stepping a m (λ x. within frames (f x))
  within_stepping frames (Gives x) m f = refl
  within_stepping frames answer.Undefined m f = refl
  within_stepping frames answer.Outside m f = refl

  within_targets : (b : Blocks) (frames : List Frame) (o : Option Target) (ops : Ops) (xs : List Value) (env : Env) (m : State)
      → within frames (stepping (present o) m (at_block xs (record { ops = ops; blocks = b; env = env }) m))
      ≡ stepping (present o) m (λ t. stepping (present (bind t.args xs env)) m (λ e. Goes (record { spot = record { ops = t.ops; blocks = b; env = e }; frames = frames }) m))
  within_targets b frames None ops xs env m = refl
  within_targets b frames (Some t) ops xs env m = within_stepping frames (present (bind t.args xs env)) m (λ e. Goes (record { ops = t.ops; blocks = b; env = e }) m)

  abbrev GoesOn : Step Place State → Type 0
  GoesOn (Stops e m) = ⊥
  GoesOn _ = Unit {0}

  stop_in : Step Place State → Stop
  stop_in (Stops e m) = e
  stop_in _ = Outside

  stop_of : {e e1 : Stop} {m m1 : State} → ◌≡◌ {A = Step Place State} (Stops e m) (Stops e1 m1) → e ≡ e1
  unfolding stop_in
  stop_of is = ap stop_in is

  module _ (P : ℕ → Type 0) where
    bound_match : (o o' : Option Env) (m : State) (f f' : Env → Step Place State) → BoundMatch P o o' → ((e e' : Env) → Agree P e e' → StepM (f e) (f' e')) → StepM (stepping (present o) m f) (stepping (present o') m f')
    bound_match None o' m f f' b h = nothing
    bound_match (Some e) o' m f f' b h = subst (λ x. StepM (f e) (stepping (present x) m f')) (sym b.1) (h e b.0 b.2)

    at_place : (p q : Place) (m : State) → SamePlaces P p q → StepM (Goes p m) (Goes q m)
    at_place p q m h = record { place = q; memory = m; leads = sim.at_once; related = record { old = P; place = q; leads = sim.at_once; related = h; same = refl } }

    module _ {b b' : Blocks} (blocks : SameBlocks P b b') {frames frames' : List Frame} (same_frames : SameFrames P frames frames') where
      -- into a block that stands for another
      into_match : (t t' : Target) (xs : List Value) (env env' : Env) (m : State) → TargetMatch P t t' → Agree P env env'
          → StepM (stepping (present (bind t.args xs env)) m (λ e. Goes (record { spot = record { ops = t.ops; blocks = b; env = e }; frames = frames }) m))
          (stepping (present (bind t'.args xs env')) m (λ e. Goes (record { spot = record { ops = t'.ops; blocks = b'; env = e }; frames = frames' }) m))
      into_match t t' xs env env' m h agree = go (bind t.args xs env) refl
        where
          go : (o : Option Env) → bind t.args xs env ≡ o → StepM (stepping (present o) m (λ e. Goes (record { spot = record { ops = t.ops; blocks = b; env = e }; frames = frames }) m))
              (stepping (present (bind t'.args xs env')) m (λ e. Goes (record { spot = record { ops = t'.ops; blocks = b'; env = e }; frames = frames' }) m))
          go None is = nothing
          go (Some e) is =
              let r = h.restores xs env env' e agree is in
              let plays : Plays ask h.rest b' frames' (line_run h.line r.0) m (Goes (place_at ask h.rest b' frames' h.line r.0) m) = line_plays ask h.rest b' frames' h.line r.0 m in
              let leads : sim.Leads ask (Goes (place_at ask h.rest b' frames' h.line r.0) m) (Goes (place_at ask h.rest b' frames' [] r.2.0) m) = subst (λ x. Plays ask h.rest b' frames' x m (Goes (place_at ask h.rest b' frames' h.line r.0) m)) r.2.1 plays in
              subst (λ x. StepM (Goes (record { spot = record { ops = t.ops; blocks = b; env = e }; frames = frames }) m) (stepping (present x) m (λ y. Goes (record { spot = record { ops = t'.ops; blocks = b'; env = y }; frames = frames' }) m))) (sym r.1)
              (subst (λ x. StepM (Goes (record { spot = record { ops = t.ops; blocks = b; env = e }; frames = frames }) m) (Goes (record { spot = record { ops = x; blocks = b'; env = r.0 }; frames = frames' }) m)) (sym h.is)
              (lead_match (Goes (record { spot = record { ops = t.ops; blocks = b; env = e }; frames = frames }) m) _ _ leads
              (at_place _ _ m (record { ops = h.same; blocks = blocks; env = r.2.2; frames = same_frames }))))

      targets_into : (o o' : Option Target) (xs : List Value) (env env' : Env) (m : State) → TargetsMatch P o o' → Agree P env env'
          → StepM (stepping (present o) m (λ t. stepping (present (bind t.args xs env)) m (λ e. Goes (record { spot = record { ops = t.ops; blocks = b; env = e }; frames = frames }) m)))
          (stepping (present o') m (λ t. stepping (present (bind t.args xs env')) m (λ e. Goes (record { spot = record { ops = t.ops; blocks = b'; env = e }; frames = frames' }) m)))
      targets_into None o' xs env env' m h agree = nothing
      targets_into (Some t) o' xs env env' m h agree =
          subst (λ x. StepM (stepping (present (bind t.args xs env)) m (λ e. Goes (record { spot = record { ops = t.ops; blocks = b; env = e }; frames = frames }) m))
          (stepping (present x) m (λ u. stepping (present (bind u.args xs env')) m (λ e. Goes (record { spot = record { ops = u.ops; blocks = b'; env = e }; frames = frames' }) m)))) (sym h.is)
          (into_match t h.target xs env env' m h.match agree)

      enters_match : (xs : List Value) (env env' : Env) (m : State) → Agree P env env' → StepM (enters b xs env frames m) (enters b' xs env' frames' m)
      enters_match xs env env' m agree = targets_into (entry b) (entry b') xs env env' m (entry_matches blocks) agree

      jump_match : (l : ℕ) (ops : Ops) (ys : List Value) (env env' : Env) (m : State) → Agree P env env'
          → StepM (within frames (stepping (present (find_block l b)) m (at_block ys (record { ops = ops; blocks = b; env = env }) m))) (jump_step ask l ys env' b' frames' m)
      jump_match l ops ys env env' m agree =
          subst (λ x. StepM x (jump_step ask l ys env' b' frames' m)) (sym (within_targets b frames (find_block l b) ops ys env m))
          (subst (λ x. StepM (stepping (present (find_block l b)) m (λ t. stepping (present (bind t.args ys env)) m (λ e. Goes (record { spot = record { ops = t.ops; blocks = b; env = e }; frames = frames }) m))) x)
          (sym (within_targets b' frames' (find_block l b') OpsEnd ys env' m))
          (targets_into (find_block l b) (find_block l b') ys env env' m (find_matches l blocks) agree))

      module _ {rest rest' : Ops} (same_rest : SameOps P rest rest') where
        ends_match : (rs : List ℕ) (env : Env) (ys : List Value) (r : Run) (m : State) (st : Step Place State)
            → ((e : Env) → bind rs ys env ≡ Some e → (e' : Env) × (r ≡ Ended e') × Agree P e e') → Plays ask rest' b' frames' r m st
            → StepM (within frames (performs ask (Ends ys) rs (record { ops = rest; blocks = b; env = env }) m)) st
        ends_match rs env ys r m st meets plays = go (bind rs ys env) refl
          where
            go : (o : Option Env) → bind rs ys env ≡ o → StepM (within frames (stepping (present o) m (λ e. Goes (record { ops = rest; blocks = b; env = e }) m))) st
            go None is = nothing
            go (Some e) is =
                let h = meets e is in
                lead_match (Goes (record { spot = record { ops = rest; blocks = b; env = e }; frames = frames }) m) st (Goes (place_at ask rest' b' frames' [] h.0) m)
                (subst (λ x. Plays ask rest' b' frames' x m st) h.1 plays)
                (at_place _ _ m (record { ops = same_rest; blocks = blocks; env = h.2; frames = same_frames }))

        abbrev SettledM : Step Place State → Step Place State → Type 1
        SettledM = sim.Settled ask ask fs fs' Same Near

        settled_bad : (e : Stop) (m : State) (st : Step Place State) → IsBad e → sim.SettledStop ask ask fs fs' Same Near e m st
        settled_bad Undefined m st bad = nothing
        settled_bad Outside m st bad = nothing
        settled_bad More m st bad = absurd bad
        settled_bad NoRoom m st bad = absurd bad

        stop_bad : (e : Stop) (m : State) (st : Step Place State) → IsBad e → sim.StopMatch ask ask fs fs' Same Near e m st
        stop_bad Undefined m st bad = nothing
        stop_bad Outside m st bad = nothing
        stop_bad More m st bad = absurd bad
        stop_bad NoRoom m st bad = absurd bad

        -- where both go on or the first is undefined or outside
        settled_by : (x st : Step Place State) → StepM x st → ((e : Stop) (m : State) → x ≡ Stops e m → IsBad e) → SettledM x st
        settled_by (Goes p m) st h bad = h
        settled_by (Calls f xs k rs p m) st h bad = nothing
        settled_by (Returns xs m) st h bad = nothing
        settled_by (Stops e m) st h bad = settled_bad e m st (bad e m refl)

        stepping_bad : {A : Type 0} (a : Answer A) (m : State) (f : A → Step Place State) → ((x : A) (e : Stop) (m1 : State) → f x ≡ Stops e m1 → IsBad e) → (e : Stop) (m1 : State) → stepping a m f ≡ Stops e m1 → IsBad e
        stepping_bad (Gives x) m f h e m1 is = h x e m1 is
        stepping_bad answer.Undefined m f h e m1 is = subst IsBad (stop_of is) tt
        stepping_bad answer.Outside m f h e m1 is = subst IsBad (stop_of is) tt

        goes_bad : (p : Place) (m : State) (e : Stop) (m1 : State) → Goes p m ≡ Stops e m1 → IsBad e
        goes_bad p m e m1 is = absurd (subst GoesOn is tt)

        settled_match : (rs : List ℕ) (env : Env) (d : Doing) (r : Run) (m : State) (st : Step Place State) → SettledMeets P rs env d r → Plays ask rest' b' frames' r m st
            → SettledM (within frames (performs ask d rs (record { ops = rest; blocks = b; env = env }) m)) st
        settled_match rs env (Ends ys) r m st meets plays =
            settled_by _ st (ends_match rs env ys r m st meets plays)
            (λ e m1. subst (λ x. x ≡ Stops e m1 → IsBad e) (sym (within_stepping frames (present (bind rs ys env)) m (λ z. Goes (record { ops = rest; blocks = b; env = z }) m)))
            (stepping_bad (present (bind rs ys env)) m (λ z. Goes (record { spot = record { ops = rest; blocks = b; env = z }; frames = frames }) m) (λ z. goes_bad _ m) e m1))
        settled_match rs env (Asks q k) r m st meets plays = go (ask q m) refl (λ ys m1 is. settled_match rs env (k ys) (meets.0 ys) m1 st (meets.2 ys) (subst (λ x. Plays ask rest' b' frames' x m st) meets.1 plays ys m1 is))
          where
            go : (a : Reply State) → ask q m ≡ a → ((ys : List Value) (m1 : State) → ask q m ≡ Answers ys m1 → SettledM (within frames (performs ask (k ys) rs (record { ops = rest; blocks = b; env = env }) m1)) st)
                → SettledM (within frames (on_reply m a (λ ys m1. performs ask (k ys) rs (record { ops = rest; blocks = b; env = env }) m1))) st
            go (Answers ys m1) is again = again ys m1 is
            go (Refuses e) is again = settled_bad e m st (refuses q m e is)
        settled_match rs env (doing.Calls f xs k) r m st meets plays = nothing
        settled_match rs env (Jumps l ys) r m st meets plays =
            settled_by _ st
            (lead_match _ st (jump_step ask l ys meets.0 b' frames' m) (subst (λ x. Plays ask rest' b' frames' x m st) meets.1 plays) (jump_match l rest ys env meets.0 m meets.2))
            (λ e m1. subst (λ x. x ≡ Stops e m1 → IsBad e) (sym (within_targets b frames (find_block l b) rest ys env m))
            (stepping_bad (present (find_block l b)) m _ (λ t. stepping_bad (present (bind t.args ys env)) m _ (λ z. goes_bad _ m)) e m1))
        settled_match rs env (doing.Returns ys) r m st meets plays = nothing
        settled_match rs env doing.Undefined r m st meets plays = nothing
        settled_match rs env doing.Outside r m st meets plays = nothing

        -- an operation is matched by a line that keeps to it
        pub doing_match : (rs : List ℕ) (env : Env) (d : Doing) (r : Run) (m : State) (st : Step Place State) → Meets P rs env d r → Plays ask rest' b' frames' r m st
            → StepM (within frames (performs ask d rs (record { ops = rest; blocks = b; env = env }) m)) st
        doing_match rs env (Ends ys) r m st meets plays = ends_match rs env ys r m st meets plays
        doing_match rs env (Asks q k) r m st meets plays = go (ask q m) refl (λ ys m1 is. doing_match rs env (k ys) (meets.0 ys) m1 st (meets.2 ys) (subst (λ x. Plays ask rest' b' frames' x m st) meets.1 plays ys m1 is))
          where
            go : (a : Reply State) → ask q m ≡ a → ((ys : List Value) (m1 : State) → ask q m ≡ Answers ys m1 → StepM (within frames (performs ask (k ys) rs (record { ops = rest; blocks = b; env = env }) m1)) st)
                → StepM (within frames (on_reply m a (λ ys m1. performs ask (k ys) rs (record { ops = rest; blocks = b; env = env }) m1))) st
            go (Answers ys m1) is again = again ys m1 is
            go (Refuses e) is again = stop_bad e m st (refuses q m e is)
        doing_match rs env (doing.Calls f xs k) r m st meets plays =
            let c = subst (λ x. Plays ask rest' b' frames' x m st) meets.1 plays in
            record {
              caller = record { goes_on = c.goes_on; results = c.results; place = c.place };
              memory = m;
              leads = c.leads;
              worlds = refl;
              callers = λ ys m1 m1' same. subst (λ z. SettledM (within frames (performs ask (k ys) rs (record { ops = rest; blocks = b; env = env }) m1)) (within c.place.frames (performs ask (c.goes_on ys) c.results c.place.spot z))) same
                  (settled_match rs env (k ys) (meets.0 ys) m1 _ (meets.2 ys) (c.behind ys m1));
            }
        doing_match rs env (Jumps l ys) r m st meets plays =
            lead_match _ st (jump_step ask l ys meets.0 b' frames' m) (subst (λ x. Plays ask rest' b' frames' x m st) meets.1 plays) (jump_match l rest ys env meets.0 m meets.2)
        doing_match rs env (doing.Returns ys) r m st meets plays = record { memory = m; leads = subst (λ x. Plays ask rest' b' frames' x m st) meets plays; worlds = refl }
        doing_match rs env doing.Undefined r m st meets plays = nothing
        doing_match rs env doing.Outside r m st meets plays = nothing

        -- the same doing in both
        pub performs_match : (rs : List ℕ) (env env' : Env) (d : Doing) (m : State) → Agree P env env'
            → StepM (within frames (performs ask d rs (record { ops = rest; blocks = b; env = env }) m)) (within frames' (performs ask d rs (record { ops = rest'; blocks = b'; env = env' }) m))
        performs_match rs env env' d m agree =
            doing_match rs env d (doing_run d rs env' Ended) m _ (meets_itself P rs env env' agree d)
            (doing_plays ask rest' b' frames' [] rs env' Ended (λ e m1. sim.at_once) d m)

    -- behind an operation that holds a region
    leaves_match : {b b' : Behind} {frames frames' : List Frame} (xs : List Value) (env env' : Env) (m : State) → SameBehind P b b' → SameFrames P frames frames' → Agree P env env'
        → StepM (leaves b xs env frames m) (leaves b' xs env' frames' m)
    leaves_match xs env env' m (same_behind {rs = rs} rest blocks) frames agree =
        bound_match (bind rs xs env) (bind rs xs env') m _ _ (bind_agree P rs xs env env' agree)
        (λ e e' bound. at_place _ _ m (record { ops = rest; blocks = blocks; env = bound; frames = frames }))

    once_match : {x x' : Blocks} {b b' : Behind} {frames frames' : List Frame} (env env' : Env) (m : State) → SameEntry P x x' → SameBehind P b b' → SameFrames P frames frames' → Agree P env env'
        → StepM (enters_once x b env frames m) (enters_once x' b' env' frames' m)
    once_match env env' m same_entry_end behind frames agree = leaves_match [] env env' m behind frames agree
    once_match env env' m (same_entry ops more) behind frames agree =
        enters_match (all_blocks (same_entry ops more)) (same_once behind frames) [] env env' m agree

    turns_match : {body body' : Blocks} {b b' : Behind} {frames frames' : List Frame} (w upper by i : ℕ) (xs : List Value) (env env' : Env) (m : State) → SameEntry P body body' → SameBehind P b b' → SameFrames P frames frames' → Agree P env env'
        → StepM (turns (record { width = w; upper = upper; by = by; body = body }) i xs b env frames m) (turns (record { width = w; upper = upper; by = by; body = body' }) i xs b' env' frames' m)
    turns_match w upper by i xs env env' m same_entry_end behind frames agree = nothing
    turns_match {b = b} {b' = b'} {frames = frames} {frames' = frames'} w upper by i xs env env' m (same_entry {l = l} {args = args} {ops = ops} {ops' = ops'} {b = more} {b' = more'} same_ops same_more) behind same_frames agree =
        bound_match (bind args (Integer i ∷ xs) env) (bind args (Integer i ∷ xs) env') m _ _ (bind_agree P args (Integer i ∷ xs) env env' agree)
        (λ e e' bound. go (has_round (record { width = w; upper = upper; by = by; body = Block l args ops more }) i) e e' bound)
      where
        go : (round : Bool) (e e' : Env) → Agree P e e'
            → StepM (tested round (record { args = args; ops = ops }) (record { width = w; upper = upper; by = by; body = Block l args ops more }) i xs b e frames m)
            (tested round (record { args = args; ops = ops' }) (record { width = w; upper = upper; by = by; body = Block l args ops' more' }) i xs b' e' frames' m)
        go true e e' bound = at_place _ _ m (record { ops = same_ops; blocks = all_blocks (same_entry same_ops same_more); env = bound; frames = same_body (same_entry same_ops same_more) behind same_frames })
        go false e e' bound = leaves_match xs e e' m behind same_frames bound

    -- the end of a region under way
    yields_match : {frames frames' : List Frame} (xs : List Value) (env env' : Env) (m : State) → SameFrames P frames frames' → Agree P env env' → StepM (yields xs env frames m) (yields xs env' frames' m)
    yields_match xs env env' m same_frames_end agree = nothing
    yields_match xs env env' m (same_once behind frames) agree = leaves_match xs env env' m behind frames agree
    yields_match xs env env' m (same_body {w = w} {upper = upper} {by = by} {i = i} {body = body} body_same behind frames) agree =
        stepping_match (next_number (record { width = w; upper = upper; by = by; body = body }) i) m _ _ (λ next. turns_match w upper by next xs env env' m body_same behind frames agree)
    yields_match xs env env' m (same_before x y behind frames) agree = nothing
    yields_match xs env env' m (same_after x y behind frames) agree = enters_match (all_blocks x) (same_before x y behind frames) xs env env' m agree

    decides_match : {frames frames' : List Frame} (c : Value) (xs : List Value) (env env' : Env) (m : State) → SameFrames P frames frames' → Agree P env env' → StepM (decides c xs env frames m) (decides c xs env' frames' m)
    decides_match c xs env env' m same_frames_end agree = nothing
    decides_match c xs env env' m (same_once behind frames) agree = nothing
    decides_match c xs env env' m (same_body body_same behind frames) agree = nothing
    decides_match c xs env env' m (same_before {x = x} {x' = x'} {y = y} {y' = y'} {b = b} {b' = b'} {fs = fs} {fs' = fs'} same_x same_y behind frames) agree = stepping_match (truth c) m _ _ go
      where
        go : (holds : Bool) → StepM (decided holds (record { before = x; after = y }) xs b env fs m) (decided holds (record { before = x'; after = y' }) xs b' env' fs' m)
        go true = enters_match (all_blocks same_y) (same_after same_x same_y behind frames) xs env env' m agree
        go false = leaves_match xs env env' m behind frames agree
    decides_match c xs env env' m (same_after x y behind frames) agree = nothing

    module _ {rest rest' : Ops} (same_rest : SameOps P rest rest') {b b' : Blocks} (blocks : SameBlocks P b b') {frames frames' : List Frame} (same_frames : SameFrames P frames frames')
        {regions regions' : Regions} (same_regions : SameRegions P regions regions') (rs ls : List ℕ) (env env' : Env) (m : State) (agree : Agree P env env') where
      abbrev b1 : Behind
      b1 = record { results = rs; rest = rest; blocks = b }

      abbrev b2 : Behind
      b2 = record { results = rs; rest = rest'; blocks = b' }

      behinds : SameBehind P b1 b2
      behinds = same_behind same_rest blocks

      loop_begins : (w lower upper by : ℕ) (none : Bool) (xs : List Value)
          → StepM (stepping (undefined_if {A = ℕ × Counting} none (Gives (lower, record { width = w; upper = upper; by = by; body = region_at 0 regions }))) m (λ start. turns start.1 start.0 xs b1 env frames m))
          (stepping (undefined_if {A = ℕ × Counting} none (Gives (lower, record { width = w; upper = upper; by = by; body = region_at 0 regions' }))) m (λ start. turns start.1 start.0 xs b2 env' frames' m))
      loop_begins w lower upper by true xs = nothing
      loop_begins w lower upper by false xs = turns_match w upper by lower xs env env' m (regions_match 0 same_regions) behinds same_frames agree

      abbrev loop_from : ℕ → Answer ℕ → Answer ℕ → Answer ℕ → Blocks → Answer (ℕ × Counting)
      loop_from w i j k body =
          and_then i (λ lower. and_then j (λ upper. and_then k (λ by.
          undefined_if (is_no_step w by) (Gives (lower, record { width = w; upper = upper; by = by; body = body })))))

      loop_match : (w : ℕ) (i j k : Answer ℕ) (xs : List Value)
          → StepM (stepping (loop_from w i j k (region_at 0 regions)) m (λ start. turns start.1 start.0 xs b1 env frames m))
          (stepping (loop_from w i j k (region_at 0 regions')) m (λ start. turns start.1 start.0 xs b2 env' frames' m))
      loop_match w (Gives i) (Gives j) (Gives k) xs = loop_begins w i j k (is_no_step w k) xs
      loop_match w (Gives i) (Gives j) answer.Undefined xs = nothing
      loop_match w (Gives i) (Gives j) answer.Outside xs = nothing
      loop_match w (Gives i) answer.Undefined k xs = nothing
      loop_match w (Gives i) answer.Outside k xs = nothing
      loop_match w answer.Undefined j k xs = nothing
      loop_match w answer.Outside j k xs = nothing

      -- the same operation in both
      acts_match : (form : Form) (xs : List Value) → StepM (acts ask form rs xs ls regions b1 env frames m) (acts ask form rs xs ls regions' b2 env' frames' m)
      acts_match If (c ∷ []) = stepping_match (truth c) m _ _ (λ holds. once_match env env' m (regions_match (first_if holds) same_regions) behinds same_frames agree)
      acts_match If [] = nothing
      acts_match If (c ∷ d ∷ xs) = nothing
      acts_match (For w) (x ∷ y ∷ z ∷ xs) = loop_match w (number x) (number y) (number z) xs
      acts_match (For w) [] = nothing
      acts_match (For w) (x ∷ []) = nothing
      acts_match (For w) (x ∷ y ∷ []) = nothing
      acts_match While xs = enters_match (all_blocks (regions_match 0 same_regions)) (same_before (regions_match 0 same_regions) (regions_match 1 same_regions) behinds same_frames) xs env env' m agree
      acts_match (Switch w cases) (x ∷ []) = stepping_match (number x) m _ _ (λ n. once_match env env' m (regions_match (case_of w n 1 cases) same_regions) behinds same_frames agree)
      acts_match (Switch w cases) [] = nothing
      acts_match (Switch w cases) (x ∷ y ∷ xs) = nothing
      acts_match Execute [] = enters_match (all_blocks (regions_match 0 same_regions)) (same_once behinds same_frames) [] env env' m agree
      acts_match Execute (x ∷ xs) = nothing
      acts_match Yield xs = yields_match xs env env' m same_frames agree
      acts_match Condition (c ∷ xs) = decides_match c xs env env' m same_frames agree
      acts_match Condition [] = nothing
      acts_match form xs = performs_match blocks same_frames same_rest rs env env' (does form ls xs) m agree

    -- one step
    step_match : (ops ops' : Ops) {b b' : Blocks} {frames frames' : List Frame} (env env' : Env) (m : State) → SameOps P ops ops' → SameBlocks P b b' → SameFrames P frames frames' → Agree P env env'
        → StepM (step_at ask ops b env frames m) (Goes (record { spot = record { ops = ops'; blocks = b'; env = env' }; frames = frames' }) m)
    step_match _ _ env env' m same_end blocks frames agree = nothing
    step_match _ _ {b = b} {b' = b'} {frames = frames} {frames' = frames'} env env' m (keeps {form = form} {rs = rs} {os = os} {ls = ls} {r = r} {r' = r'} {rest = rest} {rest' = rest'} each regions same_rest) blocks same_frames agree =
        lead_match (step_at ask (Op form rs os ls r rest) b env frames m) _ (step_at ask (Op form rs os ls r' rest') b' env' frames' m) (sim.by_step sim.at_once)
        (subst (λ o. StepM (stepping (present (lookups os env)) m (λ xs. acts ask form rs xs ls r (record { results = rs; rest = rest; blocks = b }) env frames m))
        (stepping (present o) m (λ xs. acts ask form rs xs ls r' (record { results = rs; rest = rest'; blocks = b' }) env' frames' m))) (lookups_agree P os env env' each agree)
        (stepping_match (present (lookups os env)) m _ _ (λ xs. acts_match same_rest blocks same_frames regions rs ls env env' m agree form xs)))
    step_match _ _ {b = b} {b' = b'} {frames = frames} {frames' = frames'} env env' m (swaps {form = form} {rs = rs} {os = os} {ls = ls} {r = r} {rest = rest} {rest' = rest'} line straight computes same_rest) blocks same_frames agree =
        go (lookups os env) refl
      where
        by_form : (vs : List Value) → lookups os env ≡ Some vs
            → (acts ask form rs vs ls r (record { results = rs; rest = rest; blocks = b }) env frames m ≡ within frames (performs ask (does form ls vs) rs (record { ops = rest; blocks = b; env = env }) m)) ⊎ IsStructured form
            → StepM (acts ask form rs vs ls r (record { results = rs; rest = rest; blocks = b }) env frames m) (Goes (place_at ask rest' b' frames' line env') m)
        by_form vs is (inl same) =
            subst (λ x. StepM x (Goes (place_at ask rest' b' frames' line env') m)) (sym same)
            (doing_match blocks same_frames same_rest rs env (does form ls vs) (line_run line env') m _ (computes env env' vs agree is) (line_plays ask rest' b' frames' line env' m))
        by_form vs is (inr s) = absurd (straight s)

        go : (o : Option (List Value)) → lookups os env ≡ o → StepM (stepping (present o) m (λ vs. acts ask form rs vs ls r (record { results = rs; rest = rest; blocks = b }) env frames m)) (Goes (place_at ask rest' b' frames' line env') m)
        go None is = nothing
        go (Some vs) is = by_form vs is (acts_does ask form rs vs ls r (record { results = rs; rest = rest; blocks = b }) env frames m)

  -- each step from places that go together
  pub near_match : (p : Place) (m : State) (q : Place) (m' : State) → Near p m q m' → StepM (step ask p m) (Goes q m')
  near_match p m q m' n =
      lead_match (step ask p m) (Goes q m') (Goes n.place m') n.leads
      (subst (λ z. StepM (step ask p m) (Goes n.place z)) n.same
      (step_match n.old p.spot.ops n.place.spot.ops p.spot.env n.place.spot.env m n.related.ops n.related.blocks n.related.frames n.related.env))
