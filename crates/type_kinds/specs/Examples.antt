-- Texts and where each kind stands.
use Rattle.std.specs.Prelude.{◌≡◌, ℕ, ◌==◌, false, List, [], ◌∷◌, ◌++◌, Some, None, refl, replicate, if◌then◌else◌}
use Rattle.text_grammar.specs.declared.places.Place.{Place}
use Rattle.text_grammar.specs.declared.places.Place.TheVariants as places
use Rattle.text_events.specs.declared.event.Event.{Event}
use Rattle.term_table.specs.Terms.{Term, nothing}
use Rattle.text_types.specs.Spelling.{Spelling}
use Rattle.type_kinds.specs.First.{first_in}
use Rattle.type_kinds.specs.Sizes.{no_sizes}
use Rattle.type_kinds.specs.Parts.{count, too_many}
use Rattle.type_kinds.specs.Depths.{first_deep_type, first_deep_attr}
use Rattle.type_kinds.specs.Ranges.{first_out}
use Rattle.type_kinds.specs.Counts.{first_miscount}

abbrev at : Place → ℕ → Event
at place name = record { place = place; name = name }

-- a word whose name is its own number; 0 is `index` and `?`
abbrev pub words : Spelling
words = record {
  width = λ name. if name == 0 then None else Some name;
  size = λ name. if name == 0 then None else Some name;
  number = λ name. name;
  is_void = λ name. false;
}

abbrev no_aliases : ℕ → Term
no_aliases name = nothing

-- Parts

-- where 16777214 parts stand before it: #7 = [5], and then #7 once: the list is 2, the alias 2 more, and the second part of the alias passes the limit
abbrev alias_twice : List Event
alias_twice =
    at places.AttrAliasName 7 ∷ at places.AttrAliasEquals 1 ∷ at places.ItemsOpen 1 ∷ at places.IntegerNumber 5 ∷ at places.ItemsClose 1 ∷ at places.OpName 3 ∷ at places.EntryName 4
    ∷ at places.EntryEquals 1 ∷ at places.AttrAlias 7 ∷ []

example_alias_passes : first_in count too_many (record { sizes = no_sizes; total = 16777213 }) alias_twice ≡ Some 8
example_alias_passes = refl

example_alias_fits : first_in count too_many (record { sizes = no_sizes; total = 16777212 }) alias_twice ≡ None
example_alias_fits = refl

-- -5 is one part, and it begins at the minus
example_minus_passes : first_in count too_many (record { sizes = no_sizes; total = 16777216 }) (at places.IntegerMinus 1 ∷ at places.IntegerNumber 5 ∷ []) ≡ Some 0
example_minus_passes = refl

example_minus_fits : first_in count too_many (record { sizes = no_sizes; total = 16777215 }) (at places.IntegerMinus 1 ∷ at places.IntegerNumber 5 ∷ []) ≡ None
example_minus_fits = refl

-- Depths

example_sixteen_lists : first_deep_attr (replicate 16 (at places.ItemsOpen 1)) ≡ None
example_sixteen_lists = refl

-- a seventeenth attribute within, and not behind, sixteen lists
example_deep_number : first_deep_attr (replicate 16 (at places.ItemsOpen 1) ++ at places.IntegerNumber 5 ∷ []) ≡ Some 16
example_deep_number = refl

example_number_behind : first_deep_attr (replicate 16 (at places.ItemsOpen 1) ++ at places.ItemsClose 1 ∷ at places.ItemComma 1 ∷ at places.IntegerNumber 5 ∷ []) ≡ None
example_number_behind = refl

-- a unit without `=`, and an entry with one
example_deep_unit : first_deep_attr (replicate 16 (at places.AttrDictOpen 1) ++ at places.EntryName 5 ∷ []) ≡ Some 16
example_deep_unit = refl

example_entry : first_deep_attr (replicate 16 (at places.AttrDictOpen 1) ++ at places.EntryName 5 ∷ at places.EntryEquals 1 ∷ []) ≡ None
example_entry = refl

example_deep_type : first_deep_type (replicate 16 (at places.LlvmStruct 1) ++ at places.IntegerWord 8 ∷ []) ≡ Some 16
example_deep_type = refl

-- () -> () -> .. -> i8, where sixteen function types end with i8, and a type behind them has depth 1 again
example_chain : first_deep_type (
    replicate 15 (at places.FunctionOpen 1) ++ at places.FunctionArrow 1 ∷ at places.IntegerWord 8 ∷ at places.FunctionArrow 1 ∷ at places.IntegerWord 8 ∷ at places.IntegerWord 8 ∷ []
    ) ≡ None
example_chain = refl

-- an alias of depth 2 within fifteen structs
example_deep_alias : first_deep_type (
    at places.TypeAliasName 7 ∷ at places.TypeAliasEquals 1 ∷ at places.LlvmStruct 1 ∷ at places.IntegerWord 8 ∷ at places.StructGreater 1 ∷ at places.OpName 3 ∷ []
    ++ replicate 15 (at places.LlvmStruct 1) ++ at places.TypeAlias 7 ∷ []
    ) ≡ Some 21
example_deep_alias = refl

-- Ranges

-- 255 : i8, 256 : i8
example_greatest : first_out words no_aliases (at places.IntegerNumber 255 ∷ at places.NumberColon 1 ∷ at places.ElementWord 8 ∷ []) ≡ None
example_greatest = refl

example_too_great : first_out words no_aliases (at places.IntegerNumber 256 ∷ at places.NumberColon 1 ∷ at places.ElementWord 8 ∷ []) ≡ Some 0
example_too_great = refl

-- -128 : i8, -129 : i8, at the number
example_least : first_out words no_aliases (at places.IntegerMinus 1 ∷ at places.IntegerNumber 128 ∷ at places.NumberColon 1 ∷ at places.ElementWord 8 ∷ []) ≡ None
example_least = refl

example_too_small : first_out words no_aliases (at places.IntegerMinus 1 ∷ at places.IntegerNumber 129 ∷ at places.NumberColon 1 ∷ at places.ElementWord 8 ∷ []) ≡ Some 1
example_too_small = refl

-- without a type the width is 64; behind a colon nothing is decided before the type
example_untyped : first_out words no_aliases (at places.IntegerNumber 18446744073709551616 ∷ []) ≡ Some 0
example_untyped = refl

example_undecided : first_out words no_aliases (at places.IntegerNumber 18446744073709551616 ∷ at places.NumberColon 1 ∷ []) ≡ None
example_undecided = refl

-- array<i8: 255, -129>
example_listed : first_out words no_aliases (
    at places.NumbersWord 1 ∷ at places.NumbersLess 1 ∷ at places.NumbersWidth 8 ∷ at places.NumbersColon 1 ∷ at places.ListedNumber 255 ∷ at places.NumbersComma 1 ∷ at places.ListedMinus 1
    ∷ at places.ListedNumber 129 ∷ []
    ) ≡ Some 7
example_listed = refl

example_dimension : first_out words no_aliases (at places.DimensionSize 9223372036854775807 ∷ at places.DimensionSize 0 ∷ at places.DimensionSize 9223372036854775808 ∷ []) ≡ Some 2
example_dimension = refl

example_length : first_out words no_aliases (at places.ArrayNumber 4294967295 ∷ at places.ArrayNumber 4294967296 ∷ []) ≡ Some 1
example_length = refl

example_counts : first_out words no_aliases (at places.ResultNumber 1 ∷ at places.ResultNumber 4096 ∷ at places.ResultNumber 4097 ∷ []) ≡ Some 2
example_counts = refl

example_no_results : first_out words no_aliases (at places.ResultNumber 0 ∷ []) ≡ Some 0
example_no_results = refl

-- Numbers of types

-- %1:2 = "3"(%4) : (i8) -> (i8, i8)
abbrev operation : ℕ → List Event
operation results =
    at places.ResultName 1 ∷ at places.ResultColon 1 ∷ at places.ResultNumber results ∷ at places.ResultsEquals 1 ∷ at places.OpName 3 ∷ at places.OperandsOpen 1 ∷ at places.UseName 4
    ∷ at places.OperandsClose 1 ∷ at places.SignatureColon 1 ∷ at places.SignatureOpen 1 ∷ at places.IntegerWord 8 ∷ at places.SignatureClose 1 ∷ at places.SignatureArrow 1 ∷ at places.ResultsOpen 1
    ∷ at places.IntegerWord 8 ∷ at places.TypeComma 1 ∷ at places.IntegerWord 8 ∷ at places.ResultsClose 1 ∷ []

example_as_many : first_miscount words no_aliases (operation 2) ≡ None
example_as_many = refl

example_other_results : first_miscount words no_aliases (operation 3) ≡ Some 9
example_other_results = refl

-- "3"() : (i8) -> i8
example_other_inputs : first_miscount words no_aliases (
    at places.OpName 3 ∷ at places.OperandsOpen 1 ∷ at places.OperandsClose 1 ∷ at places.SignatureColon 1 ∷ at places.SignatureOpen 1 ∷ at places.IntegerWord 8 ∷ at places.SignatureClose 1
    ∷ at places.SignatureArrow 1 ∷ at places.IntegerWord 8 ∷ []
    ) ≡ Some 4
example_other_inputs = refl

-- a function type that is cut is none
example_cut : first_miscount words no_aliases (at places.OpName 3 ∷ at places.SignatureOpen 1 ∷ at places.IntegerWord 8 ∷ at places.SignatureClose 1 ∷ at places.SignatureArrow 1 ∷ []) ≡ None
example_cut = refl

-- the operands of the operation that holds a region, and not of those within it
example_region : first_miscount words no_aliases (
    at places.OpName 3 ∷ at places.UseName 4 ∷ at places.RegionOpen 1 ∷ at places.OpName 5 ∷ at places.SignatureOpen 1 ∷ at places.SignatureClose 1 ∷ at places.SignatureArrow 1 ∷ at places.ResultsOpen 1
    ∷ at places.ResultsClose 1 ∷ at places.RegionClose 1 ∷ at places.SignatureOpen 1 ∷ at places.SignatureClose 1 ∷ at places.SignatureArrow 1 ∷ at places.ResultsOpen 1 ∷ at places.ResultsClose 1 ∷ []
    ) ≡ Some 10
example_region = refl
