-- The names of values, labels, entries and aliases: what each event is to them.
use Rattle.std.specs.Prelude.{ℕ, ◌==◌, Bool, true, false, List, [], ◌∷◌, Option, if◌then◌else◌}
use Rattle.text_grammar.specs.declared.places.Place.{Place}
use Rattle.text_grammar.specs.declared.places.Place.TheVariants as places
use Rattle.text_events.specs.declared.event.Event.{Event}
use Rattle.text_scopes.specs.declared.steps.Step.{Step}
use Rattle.text_scopes.specs.declared.steps.Step.TheVariants as steps
use Rattle.text_scopes.specs.declared.bodies.Body.{Body}
use Rattle.text_scopes.specs.declared.bodies.Class.{Class}
use Rattle.text_scopes.specs.declared.tables.Names.{Names}
use Rattle.text_scopes.specs.declared.tables.Names.TheVariants as names
use Rattle.text_scopes.specs.Bodies.{behind, opens_body, outside}
use Rattle.text_scopes.specs.Seen.{Turn, first_again, first_undefined, resolved, turns}

-- Values: results, block arguments and operands. No name goes over the border of a function, with its own results and operands: it ends at the `:` of its type.
abbrev pub value_step : Body → Place → Step
value_step body places.ResultName = steps.Defines
value_step body places.ArgName = steps.Defines
value_step body places.UseName = steps.Uses
value_step body places.RegionOpen = if opens_body body then steps.Ends else steps.Opens
value_step body places.RegionClose = if body.within == 0 then steps.Ends else steps.Closes
value_step body places.SignatureColon = if body.within == 0 then steps.Ends else steps.Stays
value_step body places.BlockColon = if body.within == 0 then steps.Ends else steps.Stays
value_step body _ = steps.Stays

-- Labels: names of one region. A function's successors stand for none.
abbrev pub label_step : Body → Place → Step
label_step body places.BlockLabel = steps.Defines
label_step body places.SuccessorName = if body.within == 0 then steps.Misses else steps.Uses
label_step body places.RegionOpen = steps.Opens
label_step body places.RegionClose = steps.Closes
label_step body _ = steps.Stays

-- Entries: names of one dictionary, and of both that an operation has, which end at the `:` of its type
abbrev pub entry_step : Place → Step
entry_step places.EntryName = steps.Defines
entry_step places.OpName = steps.Opens
entry_step places.SignatureColon = steps.Closes
entry_step places.AttrDictOpen = steps.Opens
entry_step places.AttrDictClose = steps.Closes
entry_step _ = steps.Stays

-- Aliases, of types and of attributes: names of the whole file
abbrev pub type_alias_step : Place → Step
type_alias_step places.TypeAliasName = steps.Defines
type_alias_step _ = steps.Stays

abbrev pub attr_alias_step : Place → Step
attr_alias_step places.AttrAliasName = steps.Defines
attr_alias_step _ = steps.Stays

abbrev pub step_of : Names → Body → Place → Step
step_of names.Values body place = value_step body place
step_of names.Labels body place = label_step body place
step_of names.Entries body place = entry_step place
step_of names.TypeAliases body place = type_alias_step place
step_of names.AttrAliases body place = attr_alias_step place

-- names of values are seen from regions within
abbrev pub goes_out : Names → Bool
goes_out names.Values = true
goes_out _ = false

abbrev pub steps_of : Names → (ℕ → Class) → Body → List Event → List Step
steps_of ns class body [] = []
steps_of ns class body (e ∷ es) = step_of ns body e.place ∷ steps_of ns class (behind class body e) es

abbrev pub turns_of : Names → (ℕ → Class) → List Event → List Turn
turns_of ns class es = turns (steps_of ns class outside es) es

-- the first name that is defined though a definition of it is in scope
abbrev pub first_redefined : Names → (ℕ → Class) → List Event → Option ℕ
first_redefined ns class es = first_again (goes_out ns) (turns_of ns class es)

-- the definition for which each use stands
abbrev pub definitions : Names → (ℕ → Class) → List Event → List (Option ℕ)
definitions ns class es = resolved (goes_out ns) [] (turns_of ns class es)

-- the first use that stands for none
abbrev pub first_unknown : Names → (ℕ → Class) → List Event → Option ℕ
first_unknown ns class es = first_undefined (goes_out ns) [] (turns_of ns class es)
