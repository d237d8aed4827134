-- Where a type or attribute begins.
use Rattle.std.specs.Prelude.{Bool, true, false, Option, Some, if◌then◌else◌}
use Rattle.text_grammar.specs.declared.places.Place.{Place}
use Rattle.text_grammar.specs.declared.places.Place.TheVariants as places
use Rattle.type_kinds.specs.declared.begins.Begin.{Begin}
use Rattle.type_kinds.specs.declared.begins.Begin.TheVariants as begin

-- a number, where no minus stands before it: there the attribute began at the minus
abbrev pub number_begin : Bool → Begin
number_begin minus = if minus then begin.Nothing else begin.Attr

-- an entry without a value is a unit
abbrev pub entry_begin : Option Place → Begin
entry_begin (Some places.EntryEquals) = begin.Nothing
entry_begin _ = begin.Attr

-- what begins at a place, where a minus stands before it or not, and this place is next
abbrev pub begin_at : Place → Bool → Option Place → Begin
begin_at places.IntegerWord minus next = begin.Type
begin_at places.ElementWord minus next = begin.Type
begin_at places.LlvmPlain minus next = begin.Type
begin_at places.InnerPlain minus next = begin.Type
begin_at places.LlvmStruct minus next = begin.Type
begin_at places.InnerStruct minus next = begin.Type
begin_at places.LlvmArray minus next = begin.Type
begin_at places.InnerArray minus next = begin.Type
begin_at places.LlvmFunction minus next = begin.Type
begin_at places.InnerFunction minus next = begin.Type
begin_at places.MemrefWord minus next = begin.Type
begin_at places.FunctionOpen minus next = begin.Type
begin_at places.TypeAlias minus next = begin.TypeAlias
begin_at places.ElementAlias minus next = begin.TypeAlias
begin_at places.TextAttr minus next = begin.Attr
begin_at places.IntegerMinus minus next = begin.Attr
begin_at places.BoolWord minus next = begin.Attr
begin_at places.ItemsOpen minus next = begin.Attr
begin_at places.AttrDictOpen minus next = begin.Attr
begin_at places.Symbol minus next = begin.Attr
begin_at places.DialectName minus next = begin.Attr
begin_at places.NumbersWord minus next = begin.Attr
begin_at places.IntegerNumber minus next = number_begin minus
begin_at places.EntryName minus next = entry_begin next
begin_at places.AttrAlias minus next = begin.AttrAlias
begin_at _ minus next = begin.Nothing

abbrev pub is_minus : Place → Bool
is_minus places.IntegerMinus = true
is_minus _ = false
