-- The kinds of tokens, in their order.
use Rattle.std.specs.Prelude.{ℕ, Bool, ◌==◌, List, [], ◌∷◌}
use Rattle.text_grammar.specs.declared.kinds.Kind.{Kind}
use Rattle.text_grammar.specs.declared.kinds.Kind.TheVariants as kinds

-- the number of a kind
abbrev pub number : Kind → ℕ
number kinds.Value = 0
number kinds.Label = 1
number kinds.SymbolName = 2
number kinds.Text = 3
number kinds.Number = 4
number kinds.HashName = 5
number kinds.HashNumber = 6
number kinds.HashDotted = 7
number kinds.TypeName = 8
number kinds.TypePlain = 9
number kinds.TypeStruct = 10
number kinds.TypeArray = 11
number kinds.TypeFunction = 12
number kinds.TypeDotted = 13
number kinds.WordX = 14
number kinds.WordLoc = 15
number kinds.WordUnknown = 16
number kinds.WordBool = 17
number kinds.WordWidth = 18
number kinds.WordInteger = 19
number kinds.WordMemref = 20
number kinds.WordArray = 21
number kinds.WordPlain = 22
number kinds.WordStruct = 23
number kinds.WordFunction = 24
number kinds.Word = 25
number kinds.Dimension = 26
number kinds.DimensionX = 27
number kinds.OpenParen = 28
number kinds.CloseParen = 29
number kinds.OpenSquare = 30
number kinds.CloseSquare = 31
number kinds.OpenBrace = 32
number kinds.CloseBrace = 33
number kinds.Less = 34
number kinds.Greater = 35
number kinds.Comma = 36
number kinds.Colon = 37
number kinds.Equals = 38
number kinds.Question = 39
number kinds.Minus = 40
number kinds.Arrow = 41
number kinds.DoubleColon = 42

abbrev pub is_kind : Kind → Kind → Bool
is_kind a b = number a == number b

-- every kind
abbrev pub every : List Kind
every = kinds.Value ∷ kinds.Label ∷ kinds.SymbolName ∷ kinds.Text ∷ kinds.Number ∷ kinds.HashName ∷ kinds.HashNumber ∷ kinds.HashDotted ∷ kinds.TypeName ∷ kinds.TypePlain ∷ kinds.TypeStruct ∷ kinds.TypeArray ∷ kinds.TypeFunction ∷ kinds.TypeDotted ∷ kinds.WordX ∷ kinds.WordLoc ∷ kinds.WordUnknown ∷ kinds.WordBool ∷ kinds.WordWidth ∷ kinds.WordInteger ∷ kinds.WordMemref ∷ kinds.WordArray ∷ kinds.WordPlain ∷ kinds.WordStruct ∷ kinds.WordFunction ∷ kinds.Word ∷ kinds.Dimension ∷ kinds.DimensionX ∷ kinds.OpenParen ∷ kinds.CloseParen ∷ kinds.OpenSquare ∷ kinds.CloseSquare ∷ kinds.OpenBrace ∷ kinds.CloseBrace ∷ kinds.Less ∷ kinds.Greater ∷ kinds.Comma ∷ kinds.Colon ∷ kinds.Equals ∷ kinds.Question ∷ kinds.Minus ∷ kinds.Arrow ∷ kinds.DoubleColon ∷ []

-- bare identifiers
abbrev pub words : List Kind
words = kinds.WordX ∷ kinds.WordLoc ∷ kinds.WordUnknown ∷ kinds.WordBool ∷ kinds.WordWidth ∷ kinds.WordInteger ∷ kinds.WordMemref ∷ kinds.WordArray ∷ kinds.WordPlain ∷ kinds.WordStruct ∷ kinds.WordFunction ∷ kinds.Word ∷ []
