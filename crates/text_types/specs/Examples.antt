-- Texts and what begins in them.
use Rattle.std.specs.Prelude.{◌≡◌, ℕ, ◌==◌, List, [], ◌∷◌, Some, None, refl, if◌then◌else◌}
use Rattle.text_grammar.specs.declared.places.Place.{Place}
use Rattle.text_grammar.specs.declared.places.Place.TheVariants as places
use Rattle.text_events.specs.declared.event.Event.{Event}
use Rattle.tree_model.specs.declared.type_tree.Dim.TheVariants.{Fixed, Dynamic}
use Rattle.plain_tree.specs.Types.{PlainType, Int, Index, Memref, Func, Ptr, Void, Struct, Array, LlvmFunc, end_of_types, more_types}
use Rattle.term_table.specs.declared.node.Form.TheVariants as forms
use Rattle.term_table.specs.Terms.{nothing, node}
use Rattle.text_types.specs.Spelling.{Spelling}
use Rattle.text_types.specs.Marks.{marked}
use Rattle.text_types.specs.Items.{begins}
use Rattle.text_types.specs.Aliases.{aliases_of}
use Rattle.text_types.specs.Plain.{type_of}

-- a word whose name is its own number: a width, a size or a value; 0 is `index`, `?` and `void`
abbrev words : Spelling
words = record {
  width = λ name. if name == 0 then None else Some name;
  size = λ name. if name == 0 then None else Some name;
  number = λ name. name;
  is_void = λ name. name == 0;
}

abbrev at : Place → ℕ → Event
at place name = record { place = place; name = name }

-- the first type of a text without aliases
abbrev type_at : List Event → PlainType
type_at events = type_of (begins words (λ _. nothing) (marked events))

-- i32
example_integer : type_at (at places.IntegerWord 32 ∷ []) ≡ Int 32
example_integer = refl

-- memref<2x?xi8>
abbrev memref : List Event
memref =
    at places.MemrefWord 1 ∷ at places.MemrefLess 1 ∷ at places.DimensionSize 2 ∷ at places.DimensionBy 1 ∷ at places.DimensionSize 0 ∷ at places.DimensionBy 1 ∷ at places.ElementWord 8
    ∷ at places.MemrefGreater 1 ∷ []

example_memref : type_at memref ≡ Memref (Fixed 2 ∷ Dynamic ∷ []) (Int 8)
example_memref = refl

-- (i1, index) -> ()
abbrev function : List Event
function =
    at places.FunctionOpen 1 ∷ at places.IntegerWord 1 ∷ at places.TypeComma 1 ∷ at places.IntegerWord 0 ∷ at places.FunctionClose 1 ∷ at places.FunctionArrow 1 ∷ at places.ResultsOpen 1
    ∷ at places.ResultsClose 1 ∷ []

example_function : type_at function ≡ Func (more_types (Int 1) (more_types Index end_of_types)) end_of_types
example_function = refl

-- : () -> (i1) -> i2, where the one result is a function type
abbrev function_result : List Event
function_result =
    at places.SignatureOpen 1 ∷ at places.SignatureClose 1 ∷ at places.SignatureArrow 1 ∷ at places.ResultsOpen 1 ∷ at places.IntegerWord 1 ∷ at places.ResultsClose 1 ∷ at places.FunctionArrow 1
    ∷ at places.IntegerWord 2 ∷ []

example_function_result : type_at function_result
    ≡ Func end_of_types (more_types (Func (more_types (Int 1) end_of_types) (more_types (Int 2) end_of_types)) end_of_types)
example_function_result = refl

-- !llvm.struct<(i1, array<3 x ptr>)>
abbrev struct : List Event
struct =
    at places.LlvmStruct 1 ∷ at places.StructLess 1 ∷ at places.StructOpen 1 ∷ at places.IntegerWord 1 ∷ at places.TypeComma 1 ∷ at places.InnerArray 1 ∷ at places.ArrayLess 1 ∷ at places.ArrayNumber 3
    ∷ at places.ArrayX 1 ∷ at places.InnerPlain 1 ∷ at places.ArrayGreater 1 ∷ at places.StructClose 1 ∷ at places.StructGreater 1 ∷ []

example_struct : type_at struct ≡ Struct (more_types (Int 1) (more_types (Array 3 Ptr) end_of_types))
example_struct = refl

-- !llvm.func<void (ptr)>
abbrev llvm_function : List Event
llvm_function =
    at places.LlvmFunction 1 ∷ at places.LlvmFunctionLess 1 ∷ at places.InnerPlain 0 ∷ at places.ParametersOpen 1 ∷ at places.InnerPlain 1 ∷ at places.ParametersClose 1
    ∷ at places.LlvmFunctionGreater 1 ∷ []

example_llvm_function : type_at llvm_function ≡ LlvmFunc Void (more_types Ptr end_of_types)
example_llvm_function = refl

-- a text that ends before the `>` of a struct: no type begins there
example_cut : begins words (λ _. nothing) (at places.LlvmStruct 1 ∷ at places.StructLess 1 ∷ at places.StructOpen 1 ∷ at places.IntegerWord 1 ∷ at places.StructClose 1 ∷ []) ≡ nothing
example_cut = refl

-- !7 = i8, !9 = memref<!7>: the second alias, by the first
abbrev two_aliases : List Event
two_aliases =
    at places.TypeAliasName 7 ∷ at places.TypeAliasEquals 1 ∷ at places.IntegerWord 8 ∷ at places.TypeAliasName 9 ∷ at places.TypeAliasEquals 1 ∷ at places.MemrefWord 1 ∷ at places.MemrefLess 1
    ∷ at places.ElementAlias 7 ∷ at places.MemrefGreater 1 ∷ []

example_aliases : type_of (aliases_of words two_aliases 9) ≡ Memref [] (Int 8)
example_aliases = refl

-- !7 = i8, !7 = i16: what was defined first
example_defined_again : type_of (aliases_of words (at places.TypeAliasName 7 ∷ at places.TypeAliasEquals 1 ∷ at places.IntegerWord 8 ∷ at places.TypeAliasName 7 ∷ at places.TypeAliasEquals 1
    ∷ at places.IntegerWord 16 ∷ []) 7) ≡ Int 8
example_defined_again = refl

-- #7 = loc(unknown) stands for nothing
example_location : aliases_of words (at places.AttrAliasName 7 ∷ at places.AttrAliasEquals 1 ∷ at places.LocWord 1 ∷ at places.LocOpen 1 ∷ at places.LocUnknown 1 ∷ at places.LocClose 1 ∷ []) 7 ≡ nothing
example_location = refl

-- [-5 : i8, {7}]: a list of a number behind a minus, and of a dictionary with a unit
abbrev attribute : List Event
attribute =
    at places.ItemsOpen 1 ∷ at places.IntegerMinus 1 ∷ at places.IntegerNumber 5 ∷ at places.NumberColon 1 ∷ at places.ElementWord 8 ∷ at places.ItemComma 1 ∷ at places.AttrDictOpen 1
    ∷ at places.EntryName 7 ∷ at places.AttrDictClose 1 ∷ at places.ItemsClose 1 ∷ []

example_attribute : begins words (λ _. nothing) attribute
    ≡ node forms.Items 0 (
    node forms.Item 0 (node forms.Minus 0 (node forms.Number 5 (node forms.Int 8 nothing nothing) nothing) nothing) (
    node forms.Item 0 (node forms.Dict 0 (node forms.Entry 7 (node forms.Unit 0 nothing nothing) nothing) nothing) nothing
    )
    ) nothing
example_attribute = refl
