-- Worked examples. The names: 0 is a module, 1 a function, 2 another operation; 5 and above are values, labels, entries and aliases.
use Rattle.std.specs.Prelude.{◌≡◌, ℕ, List, [], ◌∷◌, Some, None, refl}
use Rattle.text_grammar.specs.declared.places.Place.{Place}
use Rattle.text_grammar.specs.declared.places.Place.TheVariants as places
use Rattle.text_events.specs.declared.event.Event.{Event}
use Rattle.text_scopes.specs.declared.bodies.Class.{Class}
use Rattle.text_scopes.specs.declared.bodies.Class.TheVariants.{Module, Function, Known}
use Rattle.text_scopes.specs.declared.tables.Names.TheVariants as names
use Rattle.text_scopes.specs.Bodies.{class_in}
use Rattle.text_scopes.specs.Tables.{definitions, first_redefined, first_unknown}

abbrev class : ℕ → Class
class = class_in (Module ∷ Function ∷ Known ∷ [])

abbrev event : Place → ℕ → Event
event place name = record { place = place; name = name }

-- "f"({ and })
abbrev opens : ℕ → List Event → List Event
opens name es = event places.OpName name ∷ event places.RegionOpen 3 ∷ es

abbrev closes : List Event → List Event
closes es = event places.RegionClose 4 ∷ event places.SignatureColon 4 ∷ es

-- %5 = "op"()
abbrev defines : ℕ → List Event → List Event
defines name es = event places.ResultName name ∷ event places.OpName 2 ∷ event places.SignatureColon 4 ∷ es

-- "op"(%5)
abbrev uses : ℕ → List Event → List Event
uses name es = event places.OpName 2 ∷ event places.OperandsOpen 4 ∷ event places.UseName name ∷ event places.SignatureColon 4 ∷ es

-- Values that are defined twice

twice : first_redefined names.Values class (opens 1 (defines 5 (defines 6 (defines 5 [])))) ≡ Some 8
twice = refl

-- in the region of an operation that it is a result of
in_own_region : first_redefined names.Values class (opens 1 (event places.ResultName 5 ∷ opens 2 (event places.ArgName 5 ∷ []))) ≡ Some 5
in_own_region = refl

-- a name is free again where its region is over
free_again : first_redefined names.Values class (opens 1 (opens 2 (defines 5 (closes (opens 2 (defines 5 (closes (defines 5 [])))))))) ≡ None
free_again = refl

-- no name goes over a function's border, in a module or without one
two_functions : first_redefined names.Values class (event places.ResultName 5 ∷ opens 1 (defines 6 (closes (event places.ResultName 5 ∷ opens 1 (defines 6 []))))) ≡ None
two_functions = refl

in_module : first_redefined names.Values class (event places.ResultName 5 ∷ opens 0 (event places.ArgName 6 ∷ event places.BlockColon 4 ∷ event places.ResultName 5 ∷ opens 1 (defines 6 (closes (event places.ResultName 5 ∷ opens 1 (defines 6 [])))))) ≡ None
in_module = refl

-- but of one operation all are defined at once
two_results : first_redefined names.Values class (event places.ResultName 5 ∷ event places.ResultComma 4 ∷ event places.ResultName 5 ∷ []) ≡ Some 2
two_results = refl

-- The values for which uses stand

-- what is behind comes before what is ahead; the own result is behind
behind_first : definitions names.Values class (opens 1 (defines 5 (opens 2 (uses 5 (closes (event places.ResultName 6 ∷ uses 6 (closes []))))))) ≡ Some 2 ∷ Some 13 ∷ []
behind_first = refl

-- ahead: the first in the region and in those around it, and not in a region beside it
ahead_around : definitions names.Values class (opens 1 (opens 2 (uses 5 (closes (opens 2 (defines 5 (closes (defines 5 (closes []))))))))) ≡ Some 17 ∷ []
ahead_around = refl

ahead_inside : definitions names.Values class (opens 1 (opens 2 (uses 5 (defines 5 (closes (defines 5 (closes []))))))) ≡ Some 8 ∷ []
ahead_inside = refl

beside : first_unknown names.Values class (opens 1 (opens 2 (uses 5 (closes (opens 2 (defines 5 (closes (closes [])))))))) ≡ Some 6
beside = refl

-- not in another function
other_function : first_unknown names.Values class (opens 1 (uses 5 (closes (event places.ResultName 5 ∷ opens 1 [])))) ≡ Some 4
other_function = refl

-- Labels

-- names of one region
nested_labels : first_redefined names.Labels class (opens 1 (event places.BlockLabel 5 ∷ opens 2 (event places.BlockLabel 5 ∷ closes (event places.BlockLabel 6 ∷ event places.BlockLabel 5 ∷ [])))) ≡ Some 9
nested_labels = refl

successors : definitions names.Labels class (opens 1 (event places.BlockLabel 5 ∷ event places.OpName 2 ∷ event places.SuccessorName 6 ∷ event places.SuccessorName 5 ∷ event places.BlockLabel 6 ∷ closes [])) ≡ Some 6 ∷ Some 2 ∷ []
successors = refl

label_around : first_unknown names.Labels class (opens 1 (event places.BlockLabel 5 ∷ opens 2 (event places.OpName 2 ∷ event places.SuccessorName 5 ∷ closes (closes [])))) ≡ Some 6
label_around = refl

-- a function's successor stands for none
of_function : first_unknown names.Labels class (opens 0 (event places.BlockLabel 5 ∷ event places.OpName 1 ∷ event places.SuccessorName 5 ∷ [])) ≡ Some 4
of_function = refl

-- Entries

-- "op"() <{ 5, 6 = {5} }> ({ "op"() {5} : }) {5} :
both_dictionaries : first_redefined names.Entries class
    (event places.OpName 2 ∷ event places.EntryName 5 ∷ event places.EntryName 6 ∷ event places.AttrDictOpen 4 ∷ event places.EntryName 5 ∷ event places.AttrDictClose 4
    ∷ event places.RegionOpen 4 ∷ event places.OpName 2 ∷ event places.EntryName 5 ∷ event places.SignatureColon 4 ∷ event places.RegionClose 4 ∷ event places.EntryName 5 ∷ []) ≡ Some 11
both_dictionaries = refl

-- Aliases: those of types and of attributes apart
type_aliases : first_redefined names.TypeAliases class (event places.TypeAliasName 5 ∷ event places.AttrAliasName 5 ∷ event places.TypeAliasName 5 ∷ []) ≡ Some 2
type_aliases = refl

attr_aliases : first_redefined names.AttrAliases class (event places.TypeAliasName 5 ∷ event places.AttrAliasName 5 ∷ event places.TypeAliasName 5 ∷ []) ≡ None
attr_aliases = refl
