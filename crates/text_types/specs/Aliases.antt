-- What the aliases of a text stand for.
use Rattle.std.specs.Prelude.{ℕ, ◌==◌, ◌&&◌, Bool, true, false, List, [], ◌∷◌, if◌then◌else◌}
use Rattle.text_grammar.specs.declared.places.Place.{Place}
use Rattle.text_grammar.specs.declared.places.Place.TheVariants as places
use Rattle.text_events.specs.declared.event.Event.{Event}
use Rattle.term_table.specs.Terms.{Term, nothing, node}
use Rattle.text_types.specs.Spelling.{Spelling}
use Rattle.text_types.specs.Items.{Aliases, begins}

-- whether an operation or the definition of an alias begins at the place
abbrev pub is_start : Place → Bool
is_start places.OpName = true
is_start places.ResultName = true
is_start places.TypeAliasName = true
is_start places.AttrAliasName = true
is_start _ = false

-- the events up to the next operation or definition
abbrev pub piece : List Event → List Event
piece [] = []
piece (e ∷ events) = if is_start e.place then [] else e ∷ piece events

-- the name stands for the term, and each other one for what it stood for
abbrev pub bound : ℕ → Term → Aliases → Aliases
bound name term aliases other = if other == name then term else aliases other

-- whether the definition of an alias begins at the place
abbrev pub defines : Place → Bool
defines places.TypeAliasName = true
defines places.AttrAliasName = true
defines _ = false

abbrev pub is_nothing : Term → Bool
is_nothing nothing = true
is_nothing (node form value left right) = false

-- whether the event defines an alias that stands for nothing so far
abbrev pub defines_new : Aliases → Event → Bool
defines_new aliases e = defines e.place && is_nothing (aliases e.name)

-- what the aliases stand for behind an event, where these follow: one that is defined again, which is refused there, keeps what it stands for
abbrev pub after : Spelling → Aliases → Event → List Event → Aliases
after words aliases e events = if defines_new aliases e then bound e.name (begins words aliases (piece events)) aliases else aliases

-- what they stand for behind all of the events, in order of the text
abbrev pub aliases_from : Spelling → Aliases → List Event → Aliases
aliases_from words aliases [] = aliases
aliases_from words aliases (e ∷ events) = aliases_from words (after words aliases e events) events

abbrev pub aliases_of : Spelling → List Event → Aliases
aliases_of words events = aliases_from words (λ _. nothing) events
