-- States of reading with the turns of values before them, the types that wait, and what is counted of operands; and what each event is, where nothing refuses the text.
use Rattle.std.proofs.Common.{◌≡◌, ℕ, true, false, List, [], ◌∷◌, length, drop, get_or, None}
use Rattle.std.specs.Prelude.{is_some}
use Rattle.text_grammar.specs.declared.places.Place.{Place}
use Rattle.text_grammar.specs.declared.places.Place.TheVariants as places
use Rattle.text_events.specs.declared.event.Event.{Event}
use Rattle.term_table.specs.Terms.{Term}
use Rattle.text_types.specs.Spelling.{Spelling}
use Rattle.text_types.specs.Items.{Aliases, begins}
use Rattle.text_types.specs.Marks.{arrow_next, closed, first_or_false, marked, marked_at}
use Rattle.text_scopes.specs.declared.bodies.Body.{Body}
use Rattle.text_scopes.specs.declared.bodies.Class.{Class}
use Rattle.text_scopes.specs.declared.tables.Names.TheVariants as names
use Rattle.text_scopes.specs.Seen.{Turn, stands_for, turns}
use Rattle.text_scopes.specs.Tables.{steps_of, value_step}
use Rattle.text_kinds.specs.declared.limits.Limit.TheVariants as limits
use Rattle.text_kinds.specs.declared.tally.Tally.{Tally}
use Rattle.text_kinds.specs.Tallies.{counted as tallied, passes}
use Rattle.type_kinds.specs.Counts.{Held, miscounts, pass_counts}
use Rattle.use_kinds.specs.Clashes.{clash_at}
use Rattle.use_kinds.specs.Written.{Waiting, argument_type, count_of, function_type, left_at as waits_behind, types_at}
use Rattle.event_trees.specs.Wording.{Wording}
use Rattle.event_trees.specs.Numbers.{defined_at, first_of}
use Rattle.begun_types.specs.Begun.{BegunAt}
use Rattle.read_states.specs.States.{Move, State, event}

pub record Full : Type 0 where
  pub state : State
  pub before : List Turn
  pub waits : Waiting
  pub held : Held
  pub tally : Tally

module _ (sp : Spelling) (index : ℕ → ℕ) (aliases : Aliases) (words : Wording) (class : ℕ → Class) (all : List Event) (numbers : List ℕ) (types : List (List Term)) where
  abbrev pub body_at : Full → Body
  body_at x = x.state.counts.body

  abbrev pub ahead : Full → List Turn
  ahead x = turns (steps_of names.Values class x.state.counts.body x.state.events) x.state.events

  abbrev pub ends : Full → List Event
  ends x = marked x.state.events

  -- where a word stands among the marked ones
  abbrev pub mark : Place → Full → Place
  mark p y = marked_at p (arrow_next y.state.events) (first_or_false (closed y.state.events))

  pub record Moved (p : Place) (x y : Full) : Type 0 where
    pub move : Move words class numbers p x.state y.state
    pub before_is : y.before ≡ (value_step x.state.counts.body p, event p move.name) ∷ x.before
    pub waits_so : y.waits ≡ waits_behind x.waits (mark p y) (count_of sp (ends y)) (function_type sp aliases (ends y))
    pub held_so : y.held ≡ pass_counts sp x.held (event (mark p y) move.name) (ends y)
    pub tally_so : y.tally ≡ tallied class x.tally (event p move.name)
    -- what is said of it
    pub here : drop (length x.before) (marked all) ≡ event (mark p y) move.name ∷ ends y
    pub number_here : get_or numbers (length x.before) 0 ≡ defined_at x.state.counts p
    pub types_here : get_or types (length x.before) [] ≡ types_at x.waits (mark p y) (count_of sp (ends y)) (function_type sp aliases (ends y)) (argument_type sp aliases (ends y))
    pub term_here : move.term ≡ begins sp aliases (event (mark p y) move.name ∷ ends y)
    pub begun_here : BegunAt sp aliases p (event p move.name) y.state.events
    -- and that it is refused for nothing
    pub few : passes limits.Operands class x.tally (event p move.name) ≡ false
    pub counts : miscounts sp aliases x.held (event (mark p y) move.name) (ends y) ≡ false
    pub found : p ≡ places.UseName → (first_of x.state.left.values ≡ stands_for true move.name x.before (ahead y)) × (is_some (stands_for true move.name x.before (ahead y)) ≡ true)
    pub agrees : p ≡ places.UseName → clash_at sp index aliases (marked all) (length x.before) (first_of x.state.left.values) ≡ None
