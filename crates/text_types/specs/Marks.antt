-- Results in parentheses that an arrow follows are the inputs of a function type, the one result.
use Rattle.std.specs.Prelude.{Bool, true, false, List, [], ◌∷◌, if◌then◌else◌}
use Rattle.text_grammar.specs.declared.places.Place.{Place}
use Rattle.text_grammar.specs.declared.places.Place.TheVariants as places
use Rattle.text_events.specs.declared.event.Event.{Event}

abbrev pub is_arrow : Place → Bool
is_arrow places.FunctionArrow = true
is_arrow _ = false

-- whether the arrow of a function type stands next
abbrev pub arrow_next : List Event → Bool
arrow_next [] = false
arrow_next (e ∷ events) = is_arrow e.place

abbrev pub first_or_false : List Bool → Bool
first_or_false [] = false
first_or_false (b ∷ bs) = b

abbrev pub without_first : List Bool → List Bool
without_first [] = []
without_first (b ∷ bs) = bs

abbrev pub closed_at : Place → Bool → List Bool → List Bool
closed_at places.ResultsClose arrow closed = arrow ∷ closed
closed_at places.ResultsOpen arrow closed = without_first closed
closed_at _ arrow closed = closed

-- for each closing parenthesis of results that no opening one stands before, the innermost first: whether an arrow stands behind it
abbrev pub closed : List Event → List Bool
closed [] = []
closed (e ∷ events) = closed_at e.place (arrow_next events) (closed events)

-- the place, where an arrow follows it or not, and where one follows what it opens or not
abbrev pub marked_at : Place → Bool → Bool → Place
marked_at places.ResultsClose arrow inner = if arrow then places.FunctionClose else places.ResultsClose
marked_at places.ResultsOpen arrow inner = if inner then places.FunctionOpen else places.ResultsOpen
marked_at place arrow inner = place

-- the events, with such parentheses at the places of a function type
abbrev pub marked : List Event → List Event
marked [] = []
marked (e ∷ events) = record { place = marked_at e.place (arrow_next events) (first_or_false (closed events)); name = e.name } ∷ marked events
