-- The terms of a text, from the right: those that stand behind an event, the first one first.
use Rattle.std.specs.Prelude.{ℕ, List, [], ◌∷◌, Option, Some, None}
use Rattle.text_grammar.specs.declared.places.Place.{Place}
use Rattle.text_events.specs.declared.event.Event.{Event}
use Rattle.term_table.specs.declared.node.Form.{Form}
use Rattle.term_table.specs.Terms.{Term, nothing, node}
use Rattle.text_types.specs.declared.action.Action.{Action}
use Rattle.text_types.specs.declared.action.Action.TheVariants.{Keep, End, Alias, Put, Wrap, Join}
use Rattle.text_types.specs.declared.action.Actions.{Actions}
use Rattle.text_types.specs.Spelling.{Spelling}
use Rattle.text_types.specs.Actions.{actions_at}

-- what each alias stands for: nothing, where it is none
abbrev pub Aliases : Type 0
Aliases = ℕ → Term

abbrev pub wrapped : Form → ℕ → List Term → List Term
wrapped form value [] = []
wrapped form value (t ∷ rest) = node form value t nothing ∷ rest

-- where there is one term alone, the text ended too early, and none is left
abbrev pub joined : Form → ℕ → List Term → List Term
joined form value [] = []
joined form value (t ∷ []) = []
joined form value (t ∷ u ∷ rest) = node form value t u ∷ rest

-- the terms after an action, where the alias of the event stands for this
abbrev pub acted : Term → Action → List Term → List Term
acted alias Keep terms = terms
acted alias End terms = nothing ∷ terms
acted alias Alias terms = alias ∷ terms
acted alias (Put form value) terms = node form value nothing nothing ∷ terms
acted alias (Wrap form value) terms = wrapped form value terms
acted alias (Join form value) terms = joined form value terms

abbrev pub acted_both : Term → Actions → List Term → List Term
acted_both alias actions terms = acted alias actions.second (acted alias actions.first terms)

abbrev pub place_next : List Event → Option Place
place_next [] = None
place_next (e ∷ events) = Some e.place

-- the terms of the events, from the right
abbrev pub items : Spelling → Aliases → List Event → List Term
items words aliases [] = []
items words aliases (e ∷ events) = acted_both (aliases e.name) (actions_at words e.place e.name (place_next events)) (items words aliases events)

-- the first one, or nothing
abbrev pub first_of : List Term → Term
first_of [] = nothing
first_of (t ∷ terms) = t

-- the type or attribute that begins at the first event
abbrev pub begins : Spelling → Aliases → List Event → Term
begins words aliases events = first_of (items words aliases events)

-- the one that begins at each event
abbrev pub begun : Spelling → Aliases → List Event → List Term
begun words aliases [] = []
begun words aliases (e ∷ events) = begins words aliases (e ∷ events) ∷ begun words aliases events
