-- Worked examples of numbers. The names: 0 is a module, 1 a function, 2 another operation; a number's name is its value.
use Rattle.std.specs.Prelude.{◌≡◌, ℕ, List, [], ◌∷◌, refl}
use Rattle.text_grammar.specs.declared.places.Place.{Place}
use Rattle.text_grammar.specs.declared.places.Place.TheVariants as places
use Rattle.text_events.specs.declared.event.Event.{Event}
use Rattle.term_table.specs.declared.node.Form.TheVariants as forms
use Rattle.term_table.specs.Terms.{Term, nothing, node}
use Rattle.text_scopes.specs.declared.bodies.Class.{Class}
use Rattle.text_scopes.specs.declared.bodies.Class.TheVariants.{Module, Function, Known}
use Rattle.text_scopes.specs.Bodies.{class_in}
use Rattle.event_trees.specs.Wording.{Wording}
use Rattle.event_trees.specs.Numbers.{result_counts, numbers_from, no_counts}
use Rattle.event_trees.specs.Roles.{meant}

abbrev class : ℕ → Class
class = class_in (Module ∷ Function ∷ Known ∷ [])

abbrev words : Wording
words = record { spelled = λ name. []; number = λ name. name; index = λ name. name }

abbrev at : Place → ℕ → Event
at place name = record { place = place; name = name }

abbrev one_type : Term → Term
one_type more = node forms.Types 0 (node forms.Int 8 nothing nothing) more

-- function types with so many results
abbrev none : Term
none = node forms.Func 0 nothing nothing

abbrev one : Term
one = node forms.Func 0 nothing (one_type nothing)

abbrev two : Term
two = node forms.Func 0 nothing (one_type (one_type nothing))

-- "f"() ({ "op"() : two }) : one: each operation its own
nested : result_counts
    (at places.OpName 1 ∷ at places.RegionOpen 9 ∷ at places.OpName 2 ∷ at places.SignatureOpen 9 ∷ at places.RegionClose 9 ∷ at places.SignatureOpen 9 ∷ [])
    (nothing ∷ nothing ∷ nothing ∷ two ∷ nothing ∷ one ∷ [])
    ≡ 1 ∷ 1 ∷ 2 ∷ 1 ∷ 1 ∷ 0 ∷ []
nested = refl

-- "f"({^a(%5: ..): %6:2, %7 = "op"() %8 = "op"()}) : none and the next function: groups and names one by one, an argument before, and in the next function from 0
abbrev counted : List Event
counted =
    at places.OpName 1 ∷ at places.RegionOpen 9 ∷ at places.BlockLabel 4 ∷ at places.ArgName 5
    ∷ at places.ResultName 6 ∷ at places.ResultNumber 2 ∷ at places.ResultName 7 ∷ at places.OpName 2
    ∷ at places.ResultName 8 ∷ at places.OpName 2
    ∷ at places.RegionClose 9 ∷ at places.SignatureColon 9 ∷ at places.OpName 1 ∷ at places.RegionOpen 9 ∷ at places.ResultName 5 ∷ []

counts : numbers_from words class no_counts counted (0 ∷ 0 ∷ 0 ∷ 0 ∷ 3 ∷ 3 ∷ 3 ∷ 3 ∷ 1 ∷ 1 ∷ 0 ∷ 0 ∷ 0 ∷ 1 ∷ 1 ∷ [])
    ≡ 0 ∷ 0 ∷ 0 ∷ 0
    ∷ 1 ∷ 0 ∷ 3 ∷ 1
    ∷ 4 ∷ 4
    ∷ 0 ∷ 0 ∷ 0 ∷ 0 ∷ 0 ∷ []
counts = refl

-- results without names have numbers too, before those in the operation's regions; a block without a label has the number of its `{`, and labels count through the function
abbrev unnamed : List Event
unnamed =
    at places.OpName 1 ∷ at places.RegionOpen 9 ∷ at places.OpName 2 ∷ at places.RegionOpen 9 ∷ at places.BlockLabel 4 ∷ at places.ArgName 5 ∷ at places.RegionClose 9
    ∷ at places.BlockLabel 6 ∷ at places.OpName 2 ∷ []

unnamed_counts : numbers_from words class no_counts unnamed (0 ∷ 2 ∷ 2 ∷ 0 ∷ 0 ∷ 0 ∷ 0 ∷ 0 ∷ 0 ∷ [])
    ≡ 0 ∷ 0 ∷ 0 ∷ 1 ∷ 1 ∷ 2 ∷ 0
    ∷ 2 ∷ 3 ∷ []
unnamed_counts = refl

-- the body of a module counts nothing
in_module : numbers_from words class no_counts
    (at places.OpName 0 ∷ at places.RegionOpen 9 ∷ at places.BlockLabel 4 ∷ at places.BlockColon 9 ∷ at places.OpName 1 ∷ at places.RegionOpen 9 ∷ at places.BlockLabel 4 ∷ [])
    (0 ∷ 0 ∷ 0 ∷ 0 ∷ 0 ∷ 0 ∷ 0 ∷ [])
    ≡ 0 ∷ 0 ∷ 0 ∷ 0 ∷ 0 ∷ 0 ∷ 0 ∷ []
in_module = refl

-- "f"({%5:2 = "op"(%6, %5 #1)[^4] ^4: %6 = "op"()}): a use has the number of its definition, further on too, with its index
abbrev used : List Event
used =
    at places.OpName 1 ∷ at places.RegionOpen 9 ∷ at places.ResultName 5 ∷ at places.ResultNumber 2 ∷ at places.OpName 2 ∷ at places.UseName 6 ∷ at places.UseName 5 ∷ at places.UseNumber 1
    ∷ at places.SuccessorName 4 ∷ at places.BlockLabel 4 ∷ at places.ResultName 6 ∷ at places.OpName 2 ∷ []

uses : meant words class used (numbers_from words class no_counts used (0 ∷ 2 ∷ 2 ∷ 2 ∷ 2 ∷ 0 ∷ 0 ∷ 0 ∷ 0 ∷ 0 ∷ 1 ∷ 1 ∷ []))
    ≡ 0 ∷ 0 ∷ 0 ∷ 0 ∷ 0 ∷ 2 ∷ 1 ∷ 0
    ∷ 1 ∷ 1 ∷ 2 ∷ 2 ∷ []
uses = refl
