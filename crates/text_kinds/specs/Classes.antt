-- What operations are, and those that are not known.
use Rattle.std.specs.Prelude.{ℕ, Bool, true, false, List, Option, if◌then◌else◌}
use Rattle.line_grammar.specs.Language.{first_at}
use Rattle.text_grammar.specs.declared.places.Place.TheVariants as places
use Rattle.text_events.specs.declared.event.Event.{Event}
use Rattle.text_scopes.specs.declared.bodies.Class.{Class}
use Rattle.text_scopes.specs.declared.bodies.Class.TheVariants.{Function, Unknown}

abbrev pub is_function : Class → Bool
is_function Function = true
is_function _ = false

abbrev pub is_unknown : Class → Bool
is_unknown Unknown = true
is_unknown _ = false

-- nothing is kept of an event
abbrev pub kept : Bool → Event → Bool
kept allowed e = allowed

-- an operation that is not known, where such are not allowed
abbrev pub stands_unknown : (ℕ → Class) → Bool → Event → Bool
stands_unknown class allowed e = elim e.place [ places.OpName ↦ if allowed then false else is_unknown (class e.name) | _ ↦ false ]

abbrev pub first_unknown : (ℕ → Class) → Bool → List Event → Option ℕ
first_unknown class allowed es = first_at kept (stands_unknown class) allowed es
