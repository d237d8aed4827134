-- What each event does to the terms behind it.
use Rattle.std.specs.Prelude.{ℕ, Bool, Option, Some, None, if◌then◌else◌, min}
use Rattle.text_grammar.specs.declared.places.Place.{Place}
use Rattle.text_grammar.specs.declared.places.Place.TheVariants as places
use Rattle.term_table.specs.declared.node.Form.TheVariants as forms
use Rattle.text_types.specs.declared.action.Action.{Action}
use Rattle.text_types.specs.declared.action.Action.TheVariants.{Keep, End, Alias, Put, Wrap, Join}
use Rattle.text_types.specs.declared.action.Actions.{Actions}
use Rattle.text_types.specs.Spelling.{Spelling}

-- a value as a node keeps it: one that is too great is refused elsewhere, and counts as the greatest
abbrev pub capped : ℕ → ℕ
capped n = min n 18446744073709551615

-- iN, or index
abbrev pub integer_of : Option ℕ → Action
integer_of (Some width) = Put forms.Int width
integer_of None = Put forms.Index 0

-- `!llvm.void`, or `!llvm.ptr`
abbrev pub plain_of : Bool → Action
plain_of is_void = if is_void then Put forms.Void 0 else Put forms.Ptr 0

-- a size of a memref before the sizes and the element behind it
abbrev pub size_of : Option ℕ → Action
size_of (Some size) = Wrap forms.Size (capped size)
size_of None = Wrap forms.Dynamic 0

-- an opening sign puts the first type before the others, where there is one
abbrev pub opens_types : Option Place → Action
opens_types (Some places.StructClose) = Keep
opens_types (Some places.ParametersClose) = Keep
opens_types (Some places.FunctionClose) = Keep
opens_types (Some places.ResultsClose) = Keep
opens_types (Some places.SignatureClose) = Keep
opens_types _ = Join forms.Types 0

abbrev pub opens_items : Option Place → Action
opens_items (Some places.ItemsClose) = Keep
opens_items _ = Join forms.Item 0

-- behind an arrow, one type alone is a list of one
abbrev pub results_of : Option Place → Action
results_of (Some places.ResultsOpen) = Keep
results_of _ = Wrap forms.Types 0

-- a number with its type, or without one
abbrev pub number_of : ℕ → Option Place → Action
number_of name (Some places.NumberColon) = Wrap forms.Number name
number_of name _ = Put forms.Number name

-- a dialect attribute with words, or without
abbrev pub dialect_of : ℕ → Option Place → Action
dialect_of name (Some places.DialectLess) = Wrap forms.Dialect name
dialect_of name _ = Put forms.Dialect name

-- an entry has a value, or is a unit
abbrev pub value_of : Option Place → Action
value_of (Some places.EntryEquals) = Keep
value_of _ = Put forms.Unit 0

abbrev pub one : Action → Actions
one action = record { first = action; second = Keep }

abbrev pub two : Action → Action → Actions
two first second = record { first = first; second = second }

-- the width of the numbers of an array, 0 for none
abbrev pub width_of : Option ℕ → ℕ
width_of (Some width) = width
width_of None = 0

-- what an event does, where the next one stands at this place
abbrev pub actions_at : Spelling → Place → ℕ → Option Place → Actions
-- types
actions_at words places.IntegerWord name next = one (integer_of (words.width name))
actions_at words places.ElementWord name next = one (integer_of (words.width name))
actions_at words places.TypeAlias name next = one Alias
actions_at words places.ElementAlias name next = one Alias
actions_at words places.LlvmPlain name next = one (plain_of (words.is_void name))
actions_at words places.InnerPlain name next = one (plain_of (words.is_void name))
actions_at words places.StructGreater name next = one End
actions_at words places.StructOpen name next = one (opens_types next)
actions_at words places.LlvmStruct name next = one (Wrap forms.Struct 0)
actions_at words places.InnerStruct name next = one (Wrap forms.Struct 0)
actions_at words places.ArrayGreater name next = one End
actions_at words places.ArrayNumber name next = one (Join forms.Array (capped (words.number name)))
actions_at words places.LlvmFunctionGreater name next = one End
actions_at words places.ParametersOpen name next = one (opens_types next)
actions_at words places.LlvmFunction name next = one (Join forms.LlvmFunc 0)
actions_at words places.InnerFunction name next = one (Join forms.LlvmFunc 0)
actions_at words places.MemrefGreater name next = one End
actions_at words places.DimensionSize name next = one (size_of (words.size name))
actions_at words places.MemrefWord name next = one (Join forms.Memref 0)
actions_at words places.TypeComma name next = one (Join forms.Types 0)
actions_at words places.ResultsClose name next = one End
actions_at words places.ResultsOpen name next = one (opens_types next)
actions_at words places.FunctionArrow name next = one (results_of next)
actions_at words places.FunctionClose name next = one End
actions_at words places.FunctionOpen name next = two (opens_types next) (Join forms.Func 0)
-- the function type of an operation
actions_at words places.SignatureArrow name next = one (results_of next)
actions_at words places.SignatureClose name next = one End
actions_at words places.SignatureOpen name next = two (opens_types next) (Join forms.Func 0)
-- attributes
actions_at words places.TextAttr name next = one (Put forms.Text name)
actions_at words places.BoolWord name next = one (Put forms.Bool name)
actions_at words places.Symbol name next = one (Put forms.Symbol name)
actions_at words places.IntegerNumber name next = one (number_of name next)
actions_at words places.IntegerMinus name next = one (Wrap forms.Minus 0)
actions_at words places.AttrAlias name next = one Alias
actions_at words places.ItemsClose name next = one End
actions_at words places.ItemComma name next = one (Join forms.Item 0)
actions_at words places.ItemsOpen name next = two (opens_items next) (Wrap forms.Items 0)
actions_at words places.DialectGreater name next = one End
actions_at words places.DialectWord name next = one (Wrap forms.DialectWord name)
actions_at words places.DialectName name next = one (dialect_of name next)
actions_at words places.NumbersGreater name next = one End
actions_at words places.ListedNumber name next = one (Wrap forms.Listed name)
actions_at words places.ListedMinus name next = one (Wrap forms.ListedMinus 0)
actions_at words places.NumbersWidth name next = one (Wrap forms.Numbers (width_of (words.width name)))
-- dictionaries
actions_at words places.AttrDictClose name next = one End
actions_at words places.AttrDictOpen name next = one (Wrap forms.Dict 0)
actions_at words places.PropsClose name next = one End
actions_at words places.PropsOpen name next = one (Wrap forms.Dict 0)
actions_at words places.DictClose name next = one End
actions_at words places.DictOpen name next = one (Wrap forms.Dict 0)
actions_at words places.EntryName name next = two (value_of next) (Join forms.Entry name)
actions_at words place name next = one Keep
