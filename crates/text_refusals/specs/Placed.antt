-- Events that are given their places back.
use Rattle.std.specs.Prelude.{◌≡◌, List, [], ◌∷◌, Option, Some, None}
use Rattle.text_grammar.specs.declared.places.Place.{Place}
use Rattle.text_events.specs.declared.event.Event.{Event}

-- the event at this place, where there is one
abbrev pub at_place : Event → Option Place → Event
at_place e None = e
at_place e (Some p) = record { place = p; name = e.name }

-- each event at the place that stands for it, as far as there are any
abbrev pub placed : List Event → List Place → List Event
placed [] ps = []
placed (e ∷ es) [] = e ∷ placed es []
placed (e ∷ es) (p ∷ ps) = at_place e (Some p) ∷ placed es ps

-- each event is at its place
abbrev pub ArePlaced : List Event → List Place → Type 0
ArePlaced [] ps = Unit {0}
ArePlaced (e ∷ es) [] = ⊥
ArePlaced (e ∷ es) (p ∷ ps) = (e.place ≡ p) × ArePlaced es ps
