-- Where an event stands: in the body of the module, or in an operation of the body.
use Rattle.std.specs.Prelude.{ℕ, ◌+◌, ◌-◌, ◌==◌, Bool, true, false, List, get_or, if◌then◌else◌}
use Rattle.text_grammar.specs.declared.places.Place.TheVariants as places
use Rattle.text_events.specs.declared.event.Event.{Event}
use Rattle.text_scopes.specs.declared.bodies.Class.{Class}
use Rattle.text_scopes.specs.declared.bodies.Class.TheVariants.{Module, Unknown}
use Rattle.text_scopes.specs.declared.bodies.Body.{Body}

-- what a name is by a list
abbrev pub class_in : List Class → ℕ → Class
class_in classes name = get_or classes name Unknown

abbrev pub is_module : Class → Bool
is_module Module = true
is_module _ = false

-- before the first event
abbrev pub outside : Body
outside = record { within = 0; at_module = false }

-- a region that begins here is the module's
abbrev pub opens_body : Body → Bool
opens_body body = if body.within == 0 then body.at_module else false

-- where the next event stands: regions count, but for the module's
abbrev pub behind : (ℕ → Class) → Body → Event → Body
behind class body e = elim e.place [
  | places.OpName ↦ if body.within == 0 then record { within = 0; at_module = is_module (class e.name) } else body
  | places.RegionOpen ↦ if opens_body body then body else record { within = body.within + 1; at_module = body.at_module }
  | places.RegionClose ↦ if body.within == 0 then record { within = 0; at_module = true } else record { within = body.within - 1; at_module = body.at_module }
  | _ ↦ body
]
