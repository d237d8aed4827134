-- All events of a text that is refused for nothing, one by one.
use Rattle.std.proofs.Common.{◌≡◌, ℕ, Bool, true, false, List, [], ◌∷◌, map, length, Option, Some, None, refl, sym, ap, ◌∙◌, arith}
use Rattle.std.specs.Prelude.{if◌then◌else◌}
use Rattle.line_grammar.specs.Language.{first_at, one_later}
use Rattle.text_grammar.specs.declared.places.Place.{Place}
use Rattle.text_events.specs.declared.event.Event.{Event}
use Rattle.text_types.specs.Items.{place_next}
use Rattle.text_scopes.specs.declared.bodies.Class.{Class}
use Rattle.text_kinds.specs.declared.misplaced.Spot.{Spot}
use Rattle.text_kinds.specs.declared.shape.Shape.{Shape}
use Rattle.text_kinds.specs.Shapes.{begins, decides, misplaces, refused_from, shape_behind, spot_behind}
use Rattle.term_table.specs.Terms.{Term}
use Rattle.event_trees.specs.declared.counts.Counts.{Counts}
use Rattle.event_trees.specs.Wording.{Wording}
use Rattle.event_trees.specs.Numbers.{Left, counted, first_count, left_at, results_in, waiting, waiting_at}
use Rattle.event_trees.specs.Levels.{with_word}
use Rattle.text_forms.specs.Forms.{Run, run_end, run_more}
use Rattle.read_states.specs.States.{Move, NamesTold, State, event, read, read_from, role, waits}

module _ (words : Wording) (class : ℕ → Class) (numbers : List ℕ) where
  -- what an event does to the levels behind it
  pub read_moved : {p : Place} {x y : State} (m : Move words class numbers p x y) → read words class numbers x ≡ with_word words (role words class numbers p x y m.name m.term) (read words class numbers y)
  read_moved {p} {x} {y} m =
      ap (λ es. read_from words class numbers x.counts x.left es x.terms) m.event_is
      ∙ ap (λ ts. read_from words class numbers x.counts x.left (event p m.name ∷ y.events) ts) m.term_is
      ∙ ap (λ c. with_word words (role words class numbers p x y m.name m.term) (read_from words class numbers c (left_at p x.left) y.events y.terms)) (sym m.counted_so)
      ∙ ap (λ l. with_word words (role words class numbers p x y m.name m.term) (read_from words class numbers y.counts l y.events y.terms)) (sym m.left_so)

  pub waits_moved : {p : Place} {x y : State} (m : Move words class numbers p x y) → waits x ≡ waiting_at p (results_in m.term) (waits y)
  waits_moved {p} {x} {y} m = ap (λ es. waiting es x.terms) m.event_is ∙ ap (waiting (event p m.name ∷ y.events)) m.term_is

  -- All moves

  abbrev places_of : List Event → List Place
  places_of es = map (λ (e : Event). e.place) es

  pub record Runs (x : State) : Type 0 where
    pub last : State
    pub run : Run (Move words class numbers) (places_of x.events) x last
    pub over : last.events ≡ []

  not_there : (b : Bool) (o : Option ℕ) → ◌≡◌ {A = Option ℕ} (elim b [ true ↦ Some 0 | false ↦ one_later o ]) None → b ≡ false
  not_there true o h = absurd cc
  not_there false o h = refl

  none_later : (o : Option ℕ) → one_later o ≡ None → o ≡ None
  none_later None h = refl
  none_later (Some n) h = absurd cc

  not_later : (b : Bool) (o : Option ℕ) → ◌≡◌ {A = Option ℕ} (elim b [ true ↦ Some 0 | false ↦ one_later o ]) None → o ≡ None
  not_later true o h = absurd cc
  not_later false o h = none_later o h

  undecided_here : (b : Bool) (n : ℕ) (o : Option ℕ) → (if b then Some n else o) ≡ None → b ≡ false
  undecided_here true n o h = absurd cc
  undecided_here false n o h = refl

  undecided_later : (b : Bool) (n : ℕ) (o : Option ℕ) → (if b then Some n else o) ≡ None → o ≡ None
  undecided_later true n o h = absurd cc
  undecided_later false n o h = h

  pub moves : (es : List Event) (ts : List Term) (c : Counts) (begun : Bool) (s : Shape) (left : Left) → length ts ≡ length es
      → first_at (spot_behind class) (misplaces class) (record { body = c.body; begun = begun }) es ≡ None → refused_from class s es ≡ None → NamesTold words class numbers es
      → Runs (record { counts = c; begun = begun; shape = s; left = left; events = es; terms = ts })
  moves [] ts c begun s left same placed formed told = record { last = _; run = run_end _; over = refl }
  moves (e ∷ es) [] c begun s left same placed formed told = absurd (omega (arith, same))
  moves (e ∷ es) (t ∷ ts) c begun s left same placed formed told =
      let spot : Spot = record { body = c.body; begun = begun } in
      let here_not = not_there (misplaces class spot e) (first_at (spot_behind class) (misplaces class) (spot_behind class spot e) es) placed in
      let later_not = not_later (misplaces class spot e) (first_at (spot_behind class) (misplaces class) (spot_behind class spot e) es) placed in
      let undecided = undecided_here (decides s e.place) s.place (refused_from class (shape_behind class s e) es) formed in
      let more : Runs (record { counts = counted words class c e (first_count (waiting es ts)) (place_next es); begun = begins begun e.place; shape = shape_behind class s e; left = left_at e.place left; events = es; terms = ts }) =
      moves es ts (counted words class c e (first_count (waiting es ts)) (place_next es)) (begins begun e.place) (shape_behind class s e) (left_at e.place left) (omega (arith, same)) later_not (undecided_later (decides s e.place) s.place (refused_from class (shape_behind class s e) es) formed) told.1 in
      record {
        last = more.last;
        run = run_more e.place (record {
          name = e.name;
          term = t;
          event_is = refl;
          term_is = refl;
          counted_so = refl;
          left_so = refl;
          begun_so = refl;
          shape_so = refl;
          well_placed = here_not;
          undecided = undecided;
          told = told.0;
        }) more.run;
        over = more.over;
      }
