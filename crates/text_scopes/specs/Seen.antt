-- Names in scope: which definition is seen from a place in a text.
use Rattle.std.specs.Prelude.{ℕ, zero, suc, ◌+◌, ◌-◌, ◌==◌, Bool, true, false, not, List, [], ◌∷◌, ◌++◌, length, map, Option, Some, None, option_map, is_some, if◌then◌else◌}
use Rattle.line_grammar.specs.Language.{first_at}
use Rattle.text_events.specs.declared.event.Event.{Event}
use Rattle.text_scopes.specs.declared.steps.Step.{Step}
use Rattle.text_scopes.specs.declared.steps.Step.TheVariants as steps

-- what an event is to the names, and the event
abbrev pub Turn : Type 0
Turn = Step × Event

abbrev pub turns : List Step → List Event → List Turn
turns [] es = []
turns (s ∷ ss) [] = []
turns (s ∷ ss) (e ∷ es) = (s, e) ∷ turns ss es

-- What is seen

-- a definition is seen where the look is in no region that is over, and where it is of the name
abbrev pub defined : ℕ → Bool → ℕ → Option ℕ → Option ℕ
defined zero true beyond farther = Some beyond
defined _ _ beyond farther = farther

-- The definition of a name that is seen, looking back over the turns, the next of them first. It is told by the number of turns that are beyond it.
-- over: how many regions the look is in that are over; what these define is not seen
-- out: whether the look goes out of the region in which it began
abbrev pub seen : Bool → ℕ → ℕ → List Turn → Option ℕ
seen out name over [] = None
seen out name over ((steps.Defines, e) ∷ ts) = defined over (e.name == name) (length ts) (seen out name over ts)
seen out name over ((steps.Closes, e) ∷ ts) = seen out name (suc over) ts
seen out name zero ((steps.Opens, e) ∷ ts) = if out then seen out name zero ts else None
seen out name (suc over) ((steps.Opens, e) ∷ ts) = seen out name over ts
seen out name over ((steps.Ends, e) ∷ ts) = None
seen out name over ((_, e) ∷ ts) = seen out name over ts

-- Names that are defined twice

-- a definition of a name of which a definition is seen
abbrev pub again : Bool → List Turn → Turn → Bool
again out before (steps.Defines, e) = is_some (seen out e.name 0 before)
again out before (_, e) = false

abbrev pub passed : List Turn → Turn → List Turn
passed before t = t ∷ before

abbrev pub first_again : Bool → List Turn → Option ℕ
first_again out ts = first_at passed (again out) [] ts

-- The definitions for which uses stand

-- the same, read from the end: a region begins where it ends
abbrev pub turned : Step → Step
turned steps.Opens = steps.Closes
turned steps.Closes = steps.Opens
turned step = step

abbrev pub mirror : Turn → Turn
mirror t = (turned t.0, t.1)

abbrev pub or_else : Option ℕ → Option ℕ → Option ℕ
or_else (Some n) o = Some n
or_else None o = o

-- a use stands for the definition that is seen looking back, and where there is none for that which is seen looking ahead; the number of the definition among all turns
abbrev pub stands_for : Bool → ℕ → List Turn → List Turn → Option ℕ
stands_for out name before after =
    or_else (seen out name 0 before) (option_map (λ beyond. length before + length after - beyond) (seen out name 0 (map mirror after)))

-- what is told of a turn: of a use the definition that is found, and of one that no definition may serve none
abbrev pub told : Step → Option ℕ → List (Option ℕ)
told steps.Uses found = found ∷ []
told steps.Misses found = None ∷ []
told _ found = []

-- the definition for which each use stands, if there is one
abbrev pub resolved : Bool → List Turn → List Turn → List (Option ℕ)
resolved out before [] = []
resolved out before (t ∷ after) = told t.0 (stands_for out t.1.name before after) ++ resolved out (t ∷ before) after

-- a use that stands for no definition
abbrev pub is_undefined : Bool → List Turn → Turn → List Turn → Bool
is_undefined out before (steps.Uses, e) after = not (is_some (stands_for out e.name before after))
is_undefined out before (steps.Misses, e) after = true
is_undefined out before (_, e) after = false

-- the first of these
abbrev pub first_undefined : Bool → List Turn → List Turn → Option ℕ
first_undefined out before [] = None
first_undefined out before (t ∷ after) = if is_undefined out before t after then Some (length before) else first_undefined out (t ∷ before) after
