-- Worked examples.
use Rattle.std.proofs.Common.{◌≡◌, ℕ, true, false, List, [], ◌∷◌, map, None, Some, refl}
use Rattle.std.specs.Prelude.{codes}
use Rattle.mlir_lex.specs.Bytes.{is_short_escape}
use Rattle.text_grammar.specs.declared.kinds.Kind.{Kind}
use Rattle.text_grammar.specs.declared.kinds.Kind.TheVariants as kinds
use Rattle.text_grammar.specs.declared.places.Place.TheVariants as places
use Rattle.text_grammar.specs.declared.words.Word.{Word}
use Rattle.text_events.specs.declared.ending.EndKind.TheVariants.{UnknownAlias, UnsupportedAttr, UnsupportedType, Expected, LongNumber}
use Rattle.text_events.specs.declared.alias.AliasClass.TheVariants.{Integer, Other, Location}
use Rattle.text_events.specs.Spelling.{unescaped, core, spelled}
use Rattle.text_events.specs.Names.{names_of}
use Rattle.text_events.specs.Aliases.{Aliases, no_aliases, aliases_behind, alias_fault}
use Rattle.text_events.specs.Language.{Named, ends_at, nothing_before}
use Rattle.text_events.specs.Source.{events_of, number_in, number_of, width_of}

-- `a\n\41\\b` stands for `a`, a line feed, `A\b`
escapes : unescaped (97 ∷ 92 ∷ 110 ∷ 92 ∷ 52 ∷ 49 ∷ 92 ∷ 92 ∷ 98 ∷ []) ≡ 97 ∷ 10 ∷ 65 ∷ 92 ∷ 98 ∷ []
unfolding is_short_escape
escapes = refl

-- `\FF` and `\ff` are one byte
both_cases : unescaped (codes "\\FF\\ff") ≡ 255 ∷ 255 ∷ []
unfolding is_short_escape
both_cases = refl

word : Kind → ℕ → ℕ → Word
word kind start end = record { kind = kind; long = false; start = start; end = end }

-- in `"f" @f @"f" %f (` the first three are one name, `%f` is another, and the sign has its own place
one_name : names_of (codes "\"f\" @f @\"f\" %f (")
    (word kinds.Text 0 3 ∷ word kinds.SymbolName 4 6 ∷ word kinds.SymbolName 7 11 ∷ word kinds.Value 12 14 ∷ word kinds.OpenParen 15 16 ∷ [])
    ≡ 0 ∷ 0 ∷ 0 ∷ 3 ∷ 4 ∷ []
unfolding word spelled core
one_name = refl

like_strings : List Word
like_strings = word kinds.Text 0 5 ∷ word kinds.Text 6 9 ∷ word kinds.Number 10 11 ∷ word kinds.Text 12 17 ∷ word kinds.WordWidth 18 21 ∷ []

-- `0x1F` is 31, `017` is 17
hexadecimal : number_in (codes "0x1F") ≡ 31
hexadecimal = refl

leading_zero : number_in (codes "017") ≡ 17
leading_zero = refl

-- in `"t.x" "7" 7 "i32" i32` the strings are read as strings and spell what the number and the type do, but these are read by themselves
strings_first : names_of (codes "\"t.x\" \"7\" 7 \"i32\" i32") like_strings ≡ 0 ∷ 1 ∷ 1 ∷ 3 ∷ 3 ∷ []
unfolding word spelled core like_strings
strings_first = refl

read_by_themselves : map (λ e. e.name) (events_of (places.OpName ∷ places.TextAttr ∷ places.IntegerNumber ∷ places.TextAttr ∷ places.IntegerWord ∷ []) (0 ∷ 1 ∷ 1 ∷ 3 ∷ 3 ∷ []))
    ≡ 0 ∷ 1 ∷ 2 ∷ 3 ∷ 4 ∷ []
read_by_themselves = refl

seven : number_of (codes "\"t.x\" \"7\" 7 \"i32\" i32") like_strings 2 ≡ 7
unfolding word like_strings number_of
seven = refl

width_32 : width_of (codes "\"t.x\" \"7\" 7 \"i32\" i32") like_strings 4 ≡ Some 32
unfolding word like_strings width_of
width_32 = refl

-- the name of an operation is its own too, where an entry before it spells the same
own_operation : map (λ e. e.name) (events_of (places.EntryName ∷ places.OpName ∷ places.EntryName ∷ []) (0 ∷ 0 ∷ 0 ∷ [])) ≡ 0 ∷ 1 ∷ 0 ∷ []
own_operation = refl

-- behind `!a = i32`, where the next definition begins, `!a` serves as an integer's type
behind_one : Aliases
behind_one = aliases_behind (aliases_behind (aliases_behind (aliases_behind no_aliases places.TypeAliasName 0) places.TypeAliasEquals 1) places.IntegerWord 2) places.AttrAliasName 3

serves : alias_fault behind_one.known places.ElementAlias 0 ≡ None
unfolding behind_one
serves = refl

-- `#b` does not serve in its own definition
not_yet : alias_fault behind_one.known places.AttrAlias 3 ≡ Some UnknownAlias
unfolding behind_one
not_yet = refl

-- behind `!c = !a` and an operation, `!c` does too; behind `#b = loc(unknown)`, `#b` is no attribute; and behind `!d = !llvm.ptr`, `!d` is a type but no integer's
integer_alias : alias_fault ((0, Integer) ∷ []) places.ElementAlias 0 ≡ None
integer_alias = refl

location_alias : alias_fault ((0, Location) ∷ []) places.AttrAlias 0 ≡ Some UnsupportedAttr
location_alias = refl

other_alias : alias_fault ((0, Other) ∷ []) places.ElementAlias 0 ≡ Some Expected
other_alias = refl

other_type : alias_fault ((0, Other) ∷ []) places.TypeAlias 0 ≡ None
other_type = refl

long : Kind → Named
long kind = record { word = record { kind = kind; long = true; start = 0; end = 0 }; name = 0 }

-- a long number ends looking, but a ninth dimension comes before it, and the name of an alias is none
long_number : ends_at nothing_before (places.IntegerNumber, long kinds.Number) ≡ Some LongNumber
unfolding long
long_number = refl

ninth : ends_at (record { sizes = 8; aliases = no_aliases }) (places.DimensionSize, long kinds.Dimension) ≡ Some UnsupportedType
unfolding long
ninth = refl

alias_of_digits : ends_at nothing_before (places.AttrAliasName, long kinds.HashNumber) ≡ None
unfolding long
alias_of_digits = refl
