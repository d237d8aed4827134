-- Texts, and where uses clash in them. The names: 0 is a module, 1 a function, 2 another operation; 5 and above are values. A number is its own name, and integer types are told by their widths.
use Rattle.std.specs.Prelude.{◌≡◌, ℕ, ◌==◌, false, List, [], ◌∷◌, ◌++◌, Option, Some, None, refl, if◌then◌else◌}
use Rattle.text_grammar.specs.declared.places.Place.{Place}
use Rattle.text_grammar.specs.declared.places.Place.TheVariants as places
use Rattle.text_events.specs.declared.event.Event.{Event}
use Rattle.term_table.specs.Terms.{nothing}
use Rattle.text_types.specs.Spelling.{Spelling}
use Rattle.text_scopes.specs.declared.bodies.Class.TheVariants.{Module, Function, Known}
use Rattle.text_scopes.specs.Bodies.{class_in}
use Rattle.text_kinds.specs.declared.found.Found.{Found}
use Rattle.text_kinds.specs.declared.found.Kind.{Kind}
use Rattle.text_kinds.specs.declared.found.Kind.TheVariants as kinds
use Rattle.use_kinds.specs.Clashes.{first_clash}

abbrev words : Spelling
words = record {
  width = λ name. if name == 0 then None else Some name;
  size = λ name. if name == 0 then None else Some name;
  number = λ name. name;
  is_void = λ name. false;
}

abbrev first : List Event → Option Found
first es = first_clash words (λ name. name) (λ name. nothing) (class_in (Module ∷ Function ∷ Known ∷ [])) es

abbrev found : Kind → ℕ → Option Found
found kind place = Some (record { place = place; kind = kind })

abbrev at : Place → List Event → List Event
at place es = record { place = place; name = 3 } ∷ es

abbrev named : Place → ℕ → List Event → List Event
named place name es = record { place = place; name = name } ∷ es

abbrev more_types : List ℕ → List Event → List Event
more_types [] es = es
more_types (w ∷ ws) es = at places.TypeComma (named places.IntegerWord w (more_types ws es))

abbrev types : List ℕ → List Event → List Event
types [] es = es
types (w ∷ ws) es = named places.IntegerWord w (more_types ws es)

-- : (inputs) -> (results)
abbrev signature : List ℕ → List ℕ → List Event → List Event
signature inputs results es =
    at places.SignatureColon (at places.SignatureOpen (types inputs (at places.SignatureClose (at places.SignatureArrow (at places.ResultsOpen (types results (at places.ResultsClose es)))))))

-- "op"(
abbrev opens : ℕ → List Event → List Event
opens name es = named places.OpName name (at places.OperandsOpen es)

-- "f"() ({ body }) : () -> (), where the body begins at 5
abbrev inside : (List Event → List Event) → List Event
inside body =
    opens 1 (at places.OperandsClose (at places.RegionsOpen (at places.RegionOpen (body (at places.RegionClose (at places.RegionsClose (signature [] [] [])))))))

-- %5 = "op"() : () -> (results), with its `(` at 6
abbrev defines : ℕ → List ℕ → List Event → List Event
defines name results es = named places.ResultName name (at places.ResultsEquals (opens 2 (at places.OperandsClose (signature [] results es))))

-- "op"(%5) : (i8) -> (), with its `(` at 5
abbrev uses : ℕ → ℕ → List Event → List Event
uses name width es = opens 2 (named places.UseName name (at places.OperandsClose (signature (width ∷ []) [] es)))

-- "op"(%5#1) : (i8) -> (), with its `(` at 6
abbrev uses_index : ℕ → ℕ → ℕ → List Event → List Event
uses_index name index width es = opens 2 (named places.UseName name (named places.UseNumber index (at places.OperandsClose (signature (width ∷ []) [] es))))

-- Types

same_type : first (inside (λ end. defines 5 (8 ∷ []) (uses 5 8 end))) ≡ None
same_type = refl

-- a use behind its definition: at the use's function type
other_type : first (inside (λ end. defines 5 (8 ∷ []) (uses 5 16 end))) ≡ found kinds.UseType 22
other_type = refl

-- a use before its definition: at the definition's
defined_later : first (inside (λ end. uses 5 16 (defines 5 (8 ∷ []) end))) ≡ found kinds.UseType 22
defined_later = refl

-- a use in a region of the operation that defines it: at that operation's function type, which stands behind
own_region : first (inside (λ end.
    named places.ResultName 5 (at places.ResultsEquals (opens 2 (at places.OperandsClose (at places.RegionsOpen (at places.RegionOpen (uses 5 16 (at places.RegionClose (at places.RegionsClose (signature [] (8 ∷ []) end)))))))))
    )) ≡ found kinds.UseType 26
own_region = refl

-- of several operands each has its own type: "op"(%5, %6) : (i8, i16) -> ()
abbrev two_operands : ℕ → ℕ → List Event → List Event
two_operands one other es =
    opens 2 (named places.UseName 5 (at places.UseComma (named places.UseName 6 (at places.OperandsClose (signature (one ∷ other ∷ []) [] es)))))

operands_in_order : first (inside (λ end. defines 5 (8 ∷ []) (defines 6 (16 ∷ []) (two_operands 8 16 end)))) ≡ None
operands_in_order = refl

operands_out_of_order : first (inside (λ end. defines 5 (8 ∷ []) (defines 6 (16 ∷ []) (two_operands 16 8 end)))) ≡ found kinds.UseType 36
operands_out_of_order = refl

second_operand : first (inside (λ end. defines 5 (8 ∷ []) (defines 6 (16 ∷ []) (two_operands 8 8 end)))) ≡ found kinds.UseType 36
second_operand = refl

-- each operation has inputs of its own
next_operation : first (inside (λ end. defines 5 (8 ∷ []) (uses 5 8 (uses 5 16 end)))) ≡ found kinds.UseType 33
next_operation = refl

-- the operands of an operation with a region have its types, which stand behind the region: "op"(%5) ({ "op"(%5) : (i8) -> () }) : (i16) -> ()
behind_a_region : first (inside (λ end.
    defines 5 (8 ∷ []) (opens 2 (named places.UseName 5 (at places.OperandsClose (at places.RegionsOpen (at places.RegionOpen (uses 5 8 (at places.RegionClose (at places.RegionsClose (signature (16 ∷ []) [] end)))))))))
    )) ≡ found kinds.UseType 37
behind_a_region = refl

-- Block arguments: ^7(%5 : i8): and a use before or behind

abbrev argument : ℕ → List Event → List Event
argument width es =
    named places.BlockLabel 7 (at places.ArgsOpen (named places.ArgName 5 (at places.ArgColon (named places.IntegerWord width (at places.ArgsClose (at places.BlockColon es))))))

argument_before : first (inside (λ end. argument 8 (uses 5 16 end))) ≡ found kinds.UseType 17
argument_before = refl

same_argument : first (inside (λ end. argument 8 (uses 5 8 end))) ≡ None
same_argument = refl

-- a use before the block: at the argument's type
argument_later : first (inside (λ end. uses 5 16 (argument 8 end))) ≡ found kinds.UseType 20
argument_later = refl

-- Indexes

-- %5:2, %6 = "op"() : () -> (i8, i16, i32), with its `(` at 9
abbrev three_results : List Event → List Event
three_results es =
    named places.ResultName 5 (at places.ResultColon (named places.ResultNumber 2 (at places.ResultComma (named places.ResultName 6 (at places.ResultsEquals
    (opens 2 (at places.OperandsClose (signature [] (8 ∷ 16 ∷ 32 ∷ []) es))))))))

second_value : first (inside (λ end. three_results (uses_index 5 1 16 end))) ≡ None
second_value = refl

first_value : first (inside (λ end. three_results (uses_index 5 0 16 end))) ≡ found kinds.UseType 31
first_value = refl

no_index : first (inside (λ end. three_results (uses 5 8 end))) ≡ None
no_index = refl

next_name : first (inside (λ end. three_results (uses 6 32 end))) ≡ None
next_name = refl

-- two values of the name, so there is none of index 2, also where the next name's has the type
third_value : first (inside (λ end. three_results (uses_index 5 2 32 end))) ≡ found kinds.ResultIndex 31
third_value = refl

index_later : first (inside (λ end. uses_index 5 2 32 (three_results end))) ≡ found kinds.ResultIndex 27
index_later = refl

-- a block argument is one value
argument_index : first (inside (λ end. argument 8 (uses_index 5 1 8 end))) ≡ found kinds.ResultIndex 18
argument_index = refl

-- Which one

-- at one `(` another type comes first: "op"(%5#2, %6) : (i8, i8) -> ()
both_kinds : first (inside (λ end.
    three_results (opens 2 (named places.UseName 5 (named places.UseNumber 2 (at places.UseComma (named places.UseName 6 (at places.OperandsClose (signature (8 ∷ 8 ∷ []) [] end)))))))
    )) ≡ found kinds.UseType 33
both_kinds = refl

-- the least place, and not the first use: the first use is decided at its definition, behind the second one's `(`
least_place : first (inside (λ end. defines 5 (8 ∷ []) (uses 6 16 (uses 5 16 (defines 6 (8 ∷ []) end))))) ≡ found kinds.UseType 33
least_place = refl

-- Nothing

-- a use without a definition, also where the one of another function has its name
without_definition : first (inside (λ end. uses 5 16 end) ++ inside (λ end. defines 5 (8 ∷ []) end)) ≡ None
without_definition = refl

-- a function type that is cut decides nothing: the definition's, behind a use of another type, before its last word
cut_short : first (opens 1 (at places.OperandsClose (at places.RegionsOpen (at places.RegionOpen (uses 5 16 (
    named places.ResultName 5 (at places.ResultsEquals (opens 2 (at places.OperandsClose (at places.SignatureColon (at places.SignatureOpen (at places.SignatureClose (at places.SignatureArrow (
    at places.ResultsOpen (named places.IntegerWord 8 []))))))))))))))) ≡ None
cut_short = refl

cut_behind : first (opens 1 (at places.OperandsClose (at places.RegionsOpen (at places.RegionOpen (uses 5 16 (
    named places.ResultName 5 (at places.ResultsEquals (opens 2 (at places.OperandsClose (at places.SignatureColon (at places.SignatureOpen (at places.SignatureClose (at places.SignatureArrow (
    at places.ResultsOpen (named places.IntegerWord 8 (at places.ResultsClose [])))))))))))))))) ≡ found kinds.UseType 22
cut_behind = refl
