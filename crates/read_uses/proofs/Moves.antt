-- States of reading with the turns of values before them, the types that wait, and what is counted of operands; each event with what nothing that is refused says of it.
use Rattle.std.proofs.Common.{◌≡◌, ℕ, suc, ◌+◌, Bool, true, false, List, [], ◌∷◌, ◌++◌, length, drop, get_or, Option, Some, None, refl, sym, ap, ◌∙◌, subst, true≢false, arith}
use Rattle.std.specs.Prelude.{is_some, not, ◌==◌, if◌then◌else◌}
use Rattle.std.proofs.lemmas.List.{drop-drop, get_or-drop}
use Rattle.line_grammar.specs.Language.{first_at, one_later}
use Rattle.text_grammar.specs.declared.places.Place.{Place}
use Rattle.text_grammar.specs.declared.places.Place.TheVariants as places
use Rattle.text_events.specs.declared.event.Event.{Event}
use Rattle.term_table.specs.Terms.{Term, nothing}
use Rattle.text_types.specs.Spelling.{Spelling}
use Rattle.text_types.specs.Items.{Aliases, begins, begun}
use Rattle.text_types.specs.Marks.{arrow_next, closed, first_or_false, marked, marked_at}
use Rattle.text_scopes.specs.declared.bodies.Body.{Body}
use Rattle.text_scopes.specs.declared.bodies.Class.{Class}
use Rattle.text_scopes.specs.declared.steps.Step.TheVariants as steps
use Rattle.text_scopes.specs.declared.tables.Names.TheVariants as names
use Rattle.text_scopes.specs.Bodies.{opens_body}
use Rattle.text_scopes.specs.Seen.{Turn, first_undefined, is_undefined, resolved, stands_for, told, turns}
use Rattle.text_scopes.specs.Tables.{steps_of, value_step}
use Rattle.text_kinds.specs.declared.found.Found.{Found}
use Rattle.text_kinds.specs.declared.limits.Limit.TheVariants as limits
use Rattle.text_kinds.specs.Kinds.{NothingIn}
use Rattle.text_kinds.specs.Tallies.{counted as tallied, passes}
use Rattle.type_kinds.specs.Counts.{miscounts, pass_counts}
use Rattle.type_kinds.specs.First.{first_in}
use Rattle.use_kinds.specs.Clashes.{clash_at, clashes_from, is_use, next_of}
use Rattle.use_kinds.specs.Written.{count_of, function_type, left_at as waits_behind, types_from}
use Rattle.event_trees.specs.declared.counts.Counts.{Counts}
use Rattle.event_trees.specs.Wording.{Wording}
use Rattle.event_trees.specs.Numbers.{Left, defined_at, first_of, left_at, numbers_from, result_counts}
use Rattle.text_forms.specs.Forms.{Run, run_end, run_more}
use Rattle.begun_types.specs.Begun.{AreBegun}
use Rattle.read_states.specs.States.{Move, State, event}
use Rattle.read_uses.specs.Moved.{Full, Moved, ahead, ends, mark}

abbrev first_term : List Term → Term
first_term [] = nothing
first_term (t ∷ ts) = t

-- lists
here_is : {A : Type 0} (xs : List A) (k : ℕ) (v d : A) (rest : List A) → drop k xs ≡ v ∷ rest → get_or xs k d ≡ v
here_is xs k v d rest e =
    let z : k ≡ k + 0 = omega arith in
    ap (λ j. get_or xs j d) z ∙ sym (get_or-drop k xs 0 d) ∙ ap (λ ys. get_or ys 0 d) e

one_more : {A : Type 0} (xs : List A) (k : ℕ) → drop (suc k) xs ≡ drop 1 (drop k xs)
one_more xs k = let e : suc k ≡ k + 1 = omega arith in ap (λ j. drop j xs) e ∙ sym (drop-drop 1 k xs)

more_behind : {A : Type 0} (xs : List A) (k : ℕ) (v : A) (rest : List A) → drop k xs ≡ v ∷ rest → drop (suc k) xs ≡ rest
more_behind xs k v rest e = one_more xs k ∙ ap (drop 1) e

module _ (sp : Spelling) (index : ℕ → ℕ) (aliases : Aliases) (words : Wording) (class : ℕ → Class) (all : List Event) (numbers : List ℕ) (types : List (List Term)) where
  abbrev Turned : Full → List Turn
  Turned x = ahead sp index aliases words class all numbers types x

  abbrev Ends : Full → List Event
  Ends x = ends sp index aliases words class all numbers types x

  abbrev Mark : Place → Full → Place
  Mark p y = mark sp index aliases words class all numbers types p y

  abbrev Steps : Place → Full → Full → Type 0
  Steps p x y = Moved sp index aliases words class all numbers types p x y

  -- what holds of the events that are left, from the begin of a text on
  pub record Ahead (x : Full) : Type 0 where
    pub events_are : drop (length x.before) (marked all) ≡ Ends x
    pub aligned : drop (length x.before) numbers ≡ numbers_from words class x.state.counts x.state.events (result_counts x.state.events x.state.terms)
    pub typed : drop (length x.before) types ≡ types_from sp aliases x.waits (Ends x)
    pub terms_are : x.state.terms ≡ begun sp aliases (Ends x)
    pub left_is : x.state.left.values ≡ resolved true x.before (Turned x)
    pub defined : first_undefined true x.before (Turned x) ≡ None
    pub all_begun : AreBegun sp aliases x.state.events
    pub all_few : first_at (tallied class) (passes limits.Operands class) x.tally x.state.events ≡ None
    pub all_counts : first_in (pass_counts sp) (miscounts sp aliases) x.held (Ends x) ≡ None
    pub all_agree : NothingIn (clashes_from (clash_at sp index aliases (marked all)) (length x.before) (Ends x) x.state.left.values)

  not_there : (b : Bool) (o : Option ℕ) → ◌≡◌ {A = Option ℕ} (elim b [ true ↦ Some 0 | false ↦ one_later o ]) None → b ≡ false
  not_there true o h = absurd cc
  not_there false o h = refl

  none_later : (o : Option ℕ) → one_later o ≡ None → o ≡ None
  none_later None h = refl
  none_later (Some n) h = absurd cc

  not_later : (b : Bool) (o : Option ℕ) → ◌≡◌ {A = Option ℕ} (elim b [ true ↦ Some 0 | false ↦ one_later o ]) None → o ≡ None
  not_later true o h = absurd cc
  not_later false o h = none_later o h

  not_undefined : (b : Bool) (n : ℕ) (o : Option ℕ) → (if b then Some n else o) ≡ None → (b ≡ false) × (o ≡ None)
  not_undefined true n o h = absurd cc
  not_undefined false n o h = (refl, h)

  not_not : (b : Bool) → not b ≡ false → b ≡ true
  not_not true h = refl
  not_not false h = sym h

  -- a use and what is told of it
  told_step : (p : Place) (b : Body) (l : Left) (o : Option ℕ) (os : List (Option ℕ)) → l.values ≡ told (value_step b p) o ++ os → (left_at p l).values ≡ os
  told_step places.UseName b l o os h = ap (drop 1) h
  told_step places.SuccessorName b l o os h = h
  told_step places.RegionOpen b l o os h = by_test (opens_body b) h
    where
      by_test : (t : Bool) → l.values ≡ told (if t then steps.Ends else steps.Opens) o ++ os → l.values ≡ os
      by_test true h = h
      by_test false h = h
  told_step places.RegionClose b l o os h = by_test (b.within == 0) h
    where
      by_test : (t : Bool) → l.values ≡ told (if t then steps.Ends else steps.Closes) o ++ os → l.values ≡ os
      by_test true h = h
      by_test false h = h
  told_step places.SignatureColon b l o os h = by_test (b.within == 0) h
    where
      by_test : (t : Bool) → l.values ≡ told (if t then steps.Ends else steps.Stays) o ++ os → l.values ≡ os
      by_test true h = h
      by_test false h = h
  told_step places.BlockColon b l o os h = by_test (b.within == 0) h
    where
      by_test : (t : Bool) → l.values ≡ told (if t then steps.Ends else steps.Stays) o ++ os → l.values ≡ os
      by_test true h = h
      by_test false h = h
  told_step _ b l o os h = h

  agree_head : (p : Place) (clash : ℕ → Option ℕ → Option Found) (k name : ℕ) (es : List Event) (defs : List (Option ℕ)) → NothingIn (clashes_from clash k (event p name ∷ es) defs) → is_use p ≡ true → clash k (next_of defs) ≡ None
  agree_head p clash k name es defs h u = head_none (clashes_from clash (suc k) es (drop 1 defs)) (clash k (next_of defs)) (subst (λ (b : Bool). NothingIn (if b then clash k (next_of defs) ∷ clashes_from clash (suc k) es (drop 1 defs) else clashes_from clash (suc k) es defs)) u h)
    where
      head_none : (os : List (Option Found)) (o : Option Found) → NothingIn (o ∷ os) → o ≡ None
      head_none os None h = refl
      head_none os (Some f) h = absurd h

  agree_tail : (b : Bool) (p : Place) (clash : ℕ → Option ℕ → Option Found) (k : ℕ) (es : List Event) (defs rest : List (Option ℕ)) → (b ≡ true → rest ≡ drop 1 defs) → (b ≡ false → rest ≡ defs)
      → NothingIn (if b then clash k (next_of defs) ∷ clashes_from clash (suc k) es (drop 1 defs) else clashes_from clash (suc k) es defs) → NothingIn (clashes_from clash (suc k) es rest)
  agree_tail true p clash k es defs rest t f h = subst (λ (ds : List (Option ℕ)). NothingIn (clashes_from clash (suc k) es ds)) (sym (t refl)) (tail_none (clashes_from clash (suc k) es (drop 1 defs)) (clash k (next_of defs)) h)
    where
      tail_none : (os : List (Option Found)) (o : Option Found) → NothingIn (o ∷ os) → NothingIn os
      tail_none os None h = h
      tail_none os (Some f) h = absurd h
  agree_tail false p clash k es defs rest t f h = subst (λ (ds : List (Option ℕ)). NothingIn (clashes_from clash (suc k) es ds)) (sym (f refl)) h

  use_left : (p : Place) (b c : Bool) (l : Left) → is_use (marked_at p b c) ≡ true → (left_at p l).values ≡ drop 1 l.values
  use_left places.UseName b c l h = refl
  use_left places.ResultsOpen b true l h = absurd (true≢false (sym h))
  use_left places.ResultsOpen b false l h = absurd (true≢false (sym h))
  use_left places.ResultsClose true c l h = absurd (true≢false (sym h))
  use_left places.ResultsClose false c l h = absurd (true≢false (sym h))
  use_left _ b c l h = absurd (true≢false (sym h))

  other_left : (p : Place) (b c : Bool) (l : Left) → is_use (marked_at p b c) ≡ false → (left_at p l).values ≡ l.values
  other_left places.UseName b c l h = absurd (true≢false h)
  other_left _ b c l h = refl

  same_next : (os : List (Option ℕ)) → next_of os ≡ first_of os
  same_next [] = refl
  same_next (o ∷ os) = refl

  record Stepped (p : Place) (x : Full) (y : State) : Type 0 where
    to : Full
    state_is : to.state ≡ y
    moved : Steps p x to
    on : Ahead to

  stepped : (p : Place) (x : Full) (y : State) → Ahead x → Move words class numbers p x.state y → Stepped p x y
  stepped p x y a m = record { to = to; state_is = refl; moved = moved; on = on }
    where
      to : Full
      to = record {
        state = y;
        before = (value_step x.state.counts.body p, event p m.name) ∷ x.before;
        waits = waits_behind x.waits (marked_at p (arrow_next y.events) (first_or_false (closed y.events))) (count_of sp (marked y.events)) (function_type sp aliases (marked y.events));
        held = pass_counts sp x.held (event (marked_at p (arrow_next y.events) (first_or_false (closed y.events))) m.name) (marked y.events);
        tally = tallied class x.tally (event p m.name);
      }

      word : Event
      word = event (marked_at p (arrow_next y.events) (first_or_false (closed y.events))) m.name

      left_turns : List Turn
      left_turns = turns (steps_of names.Values class y.counts.body y.events) y.events

      ends_is : marked x.state.events ≡ event (marked_at p (arrow_next y.events) (first_or_false (closed y.events))) m.name ∷ marked y.events
      ends_is = ap marked m.event_is

      here : drop (length x.before) (marked all) ≡ event (marked_at p (arrow_next y.events) (first_or_false (closed y.events))) m.name ∷ marked y.events
      here = a.events_are ∙ ap marked m.event_is

      own : drop (length x.before) numbers ≡ defined_at x.state.counts p ∷ numbers_from words class y.counts y.events (result_counts y.events y.terms)
      own =
          a.aligned ∙ ap (λ es. numbers_from words class x.state.counts es (result_counts es x.state.terms)) m.event_is
          ∙ ap (λ ts. numbers_from words class x.state.counts (event p m.name ∷ y.events) (result_counts (event p m.name ∷ y.events) ts)) m.term_is
          ∙ ap (λ c. defined_at x.state.counts p ∷ numbers_from words class c y.events (result_counts y.events y.terms)) (sym m.counted_so)

      typed : drop (length x.before) types ≡ types_from sp aliases x.waits (event (marked_at p (arrow_next y.events) (first_or_false (closed y.events))) m.name ∷ marked y.events)
      typed = a.typed ∙ ap (λ es. types_from sp aliases x.waits (marked es)) m.event_is

      terms : m.term ∷ y.terms ≡ begins sp aliases (event (marked_at p (arrow_next y.events) (first_or_false (closed y.events))) m.name ∷ marked y.events) ∷ begun sp aliases (marked y.events)
      terms = sym m.term_is ∙ a.terms_are ∙ ap (λ es. begun sp aliases (marked es)) m.event_is

      turned : turns (steps_of names.Values class x.state.counts.body x.state.events) x.state.events ≡ (value_step x.state.counts.body p, event p m.name) ∷ turns (steps_of names.Values class y.counts.body y.events) y.events
      turned =
          ap (λ es. turns (steps_of names.Values class x.state.counts.body es) es) m.event_is
          ∙ ap (λ (b : Body). (value_step x.state.counts.body p, event p m.name) ∷ turns (steps_of names.Values class b y.events) y.events) (sym (ap (λ (c : Counts). c.body) m.counted_so))

      left : x.state.left.values ≡ told (value_step x.state.counts.body p) (stands_for true m.name x.before (turns (steps_of names.Values class y.counts.body y.events) y.events))
          ++ resolved true ((value_step x.state.counts.body p, event p m.name) ∷ x.before) (turns (steps_of names.Values class y.counts.body y.events) y.events)
      left = a.left_is ∙ ap (resolved true x.before) turned

      undefined : (is_undefined true x.before (value_step x.state.counts.body p, event p m.name) (turns (steps_of names.Values class y.counts.body y.events) y.events) ≡ false)
          × (first_undefined true ((value_step x.state.counts.body p, event p m.name) ∷ x.before) (turns (steps_of names.Values class y.counts.body y.events) y.events) ≡ None)
      undefined = not_undefined _ (length x.before) _ (sym (ap (first_undefined true x.before) turned) ∙ a.defined)

      begun_all : AreBegun sp aliases (event p m.name ∷ y.events)
      begun_all = subst (λ (es : List Event). AreBegun sp aliases es) m.event_is a.all_begun

      few : first_at (tallied class) (passes limits.Operands class) x.tally (event p m.name ∷ y.events) ≡ None
      few = sym (ap (first_at (tallied class) (passes limits.Operands class) x.tally) m.event_is) ∙ a.all_few

      counts : first_in (pass_counts sp) (miscounts sp aliases) x.held (event (marked_at p (arrow_next y.events) (first_or_false (closed y.events))) m.name ∷ marked y.events) ≡ None
      counts = sym (ap (λ es. first_in (pass_counts sp) (miscounts sp aliases) x.held (marked es)) m.event_is) ∙ a.all_counts

      agree : NothingIn (clashes_from (clash_at sp index aliases (marked all)) (length x.before) (event (marked_at p (arrow_next y.events) (first_or_false (closed y.events))) m.name ∷ marked y.events) x.state.left.values)
      agree = subst (λ (es : List Event). NothingIn (clashes_from (clash_at sp index aliases (marked all)) (length x.before) (marked es) x.state.left.values)) m.event_is a.all_agree

      used : p ≡ places.UseName → (first_of x.state.left.values ≡ stands_for true m.name x.before (turns (steps_of names.Values class y.counts.body y.events) y.events))
          × (is_some (stands_for true m.name x.before (turns (steps_of names.Values class y.counts.body y.events) y.events)) ≡ true)
      used h = (
        ap first_of (left ∙ ap (λ q. told (value_step x.state.counts.body q) (stands_for true m.name x.before left_turns) ++ resolved true ((value_step x.state.counts.body p, event p m.name) ∷ x.before) left_turns) h),
        not_not _ (sym (ap (λ q. is_undefined true x.before (value_step x.state.counts.body q, event p m.name) left_turns) h) ∙ undefined.0),
      )

      moved : Steps p x to
      moved = record {
        move = m;
        before_is = refl;
        waits_so = refl;
        held_so = refl;
        tally_so = refl;
        here = here;
        number_here = here_is numbers (length x.before) (defined_at x.state.counts p) 0 _ own;
        types_here = here_is types (length x.before) _ [] _ typed;
        term_here = ap first_term terms;
        begun_here = begun_all.0;
        few = not_there (passes limits.Operands class x.tally (event p m.name)) _ few;
        counts = not_there (miscounts sp aliases x.held word (marked y.events)) _ counts;
        found = used;
        agrees = λ h. ap (clash_at sp index aliases (marked all) (length x.before)) (sym (same_next x.state.left.values))
            ∙ agree_head (marked_at p (arrow_next y.events) (first_or_false (closed y.events))) (clash_at sp index aliases (marked all)) (length x.before) m.name (marked y.events) x.state.left.values agree
            (ap (λ q. is_use (marked_at q (arrow_next y.events) (first_or_false (closed y.events)))) h);
      }

      on : Ahead to
      on = record {
        events_are = more_behind (marked all) (length x.before) _ _ here;
        aligned = more_behind numbers (length x.before) _ _ own;
        typed = more_behind types (length x.before) _ _ typed;
        terms_are = ap (drop 1) terms;
        left_is = ap (λ (l : Left). l.values) m.left_so ∙ told_step p x.state.counts.body x.state.left (stands_for true m.name x.before left_turns) _ left;
        defined = undefined.1;
        all_begun = begun_all.1;
        all_few = not_later (passes limits.Operands class x.tally (event p m.name)) _ few;
        all_counts = not_later (miscounts sp aliases x.held word (marked y.events)) _ counts;
        all_agree = agree_tail (is_use (marked_at p (arrow_next y.events) (first_or_false (closed y.events)))) p (clash_at sp index aliases (marked all)) (length x.before) (marked y.events) x.state.left.values y.left.values
            (λ h. ap (λ (l : Left). l.values) m.left_so ∙ use_left p _ _ x.state.left h) (λ h. ap (λ (l : Left). l.values) m.left_so ∙ other_left p _ _ x.state.left h) agree;
      }

  -- all events of a text
  pub record FullRun (ps : List Place) (x : Full) (last : State) : Type 0 where
    pub end : Full
    pub end_is : end.state ≡ last
    pub run : Run Steps ps x end

  pub full_run : {ps : List Place} (x : Full) {y last : State} → x.state ≡ y → Ahead x → Run (Move words class numbers) ps y last → FullRun ps x last
  full_run x e a (run_end z) = record { end = x; end_is = e; run = run_end x }
  full_run x e a (run_more p {y = z} m more) =
      let s = stepped p x z a (subst (λ (w : State). Move words class numbers p w z) (sym e) m) in
      let rest = full_run s.to s.state_is s.on more in
      record { end = rest.end; end_is = rest.end_is; run = run_more p s.moved rest.run }
