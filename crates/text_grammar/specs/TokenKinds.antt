-- The kind of a token by its bytes.
use Rattle.std.specs.Prelude.{ℕ, ◌+◌, ◌*◌, ◌-◌, ◌^◌, ◌==◌, ◌&&◌, ◌||◌, Bool, false, List, [], ◌∷◌, drop, codes, if◌then◌else◌, nat_le}
use Rattle.std.specs.List.{list_all, list_any}
use Rattle.std.specs.Str.{bytes_eq}
use Rattle.mlir_lex.specs.Bytes.{is_digit}
use Rattle.mlir_lex.specs.declared.TokenKind.{TokenKind}
use Rattle.mlir_lex.specs.declared.TokenKind.TheVariants as token
use Rattle.text_grammar.specs.declared.kinds.Kind.{Kind}
use Rattle.text_grammar.specs.declared.kinds.Kind.TheVariants.{Value, Label, SymbolName, Text, Number, HashName, HashNumber, HashDotted, TypeName, TypePlain, TypeStruct, TypeArray, TypeFunction, TypeDotted, WordX, WordLoc, WordUnknown, WordBool, WordWidth, WordInteger, WordMemref, WordArray, WordPlain, WordStruct, WordFunction, Word, Dimension, OpenParen, CloseParen, OpenSquare, CloseSquare, OpenBrace, CloseBrace, Less, Greater, Comma, Colon, Equals, Question, Minus, Arrow, DoubleColon}

-- the name has a dot
abbrev pub has_dot : List ℕ → Bool
has_dot name = list_any (λ b. b == 46) name

-- digits that are a number from 1 to 64, without a zero before it
abbrev pub is_width : List ℕ → Bool
is_width [] = false
is_width (a ∷ []) = nat_le 49 a && nat_le a 57
is_width (a ∷ b ∷ []) = is_digit b && ((nat_le 49 a && nat_le a 53) || (a == 54 && nat_le b 52))
is_width (a ∷ b ∷ c ∷ more) = false

-- `i` and such digits
abbrev pub is_integer_type : List ℕ → Bool
is_integer_type [] = false
is_integer_type (b ∷ digits) = b == 105 && is_width digits

-- bare identifiers of types
unfoldable pub type_word : List ℕ → Kind
type_word piece =
    if bytes_eq piece (codes "i8") || bytes_eq piece (codes "i16") || bytes_eq piece (codes "i32") || bytes_eq piece (codes "i64") then WordWidth else
    if bytes_eq piece (codes "index") || is_integer_type piece then WordInteger else
    if bytes_eq piece (codes "memref") then WordMemref else
    if bytes_eq piece (codes "array") then WordArray else
    if bytes_eq piece (codes "ptr") || bytes_eq piece (codes "void") then WordPlain else
    if bytes_eq piece (codes "struct") then WordStruct else
    if bytes_eq piece (codes "func") then WordFunction else Word

-- bare identifiers
unfoldable pub bare_kind : List ℕ → Kind
bare_kind piece =
    if bytes_eq piece (codes "x") then WordX else
    if bytes_eq piece (codes "loc") then WordLoc else
    if bytes_eq piece (codes "unknown") then WordUnknown else
    if bytes_eq piece (codes "true") || bytes_eq piece (codes "false") then WordBool else type_word piece

-- `#` and a suffix
unfoldable pub hash_kind : List ℕ → Kind
hash_kind piece = if list_all is_digit (drop 1 piece) then HashNumber else if has_dot piece then HashDotted else HashName

-- `!` and a suffix
unfoldable pub type_kind : List ℕ → Kind
type_kind piece =
    if bytes_eq piece (codes "!llvm.ptr") || bytes_eq piece (codes "!llvm.void") then TypePlain else
    if bytes_eq piece (codes "!llvm.struct") then TypeStruct else
    if bytes_eq piece (codes "!llvm.array") then TypeArray else
    if bytes_eq piece (codes "!llvm.func") then TypeFunction else
    if has_dot piece then TypeDotted else TypeName

-- brackets
unfoldable pub bracket_kind : List ℕ → Kind
bracket_kind piece =
    if bytes_eq piece (codes "(") then OpenParen else
    if bytes_eq piece (codes ")") then CloseParen else
    if bytes_eq piece (codes "[") then OpenSquare else
    if bytes_eq piece (codes "]") then CloseSquare else
    if bytes_eq piece (codes "{") then OpenBrace else
    if bytes_eq piece (codes "}") then CloseBrace else
    if bytes_eq piece (codes "<") then Less else Greater

-- signs
unfoldable pub sign_kind : List ℕ → Kind
sign_kind piece =
    if bytes_eq piece (codes ",") then Comma else
    if bytes_eq piece (codes ":") then Colon else
    if bytes_eq piece (codes "=") then Equals else
    if bytes_eq piece (codes "?") then Question else
    if bytes_eq piece (codes "-") then Minus else
    if bytes_eq piece (codes "->") then Arrow else
    if bytes_eq piece (codes "::") then DoubleColon else bracket_kind piece

-- a token
unfoldable pub token_kind : TokenKind → List ℕ → Kind
token_kind token.Bare piece = bare_kind piece
token_kind token.ValueName piece = Value
token_kind token.BlockName piece = Label
token_kind token.AttrName piece = hash_kind piece
token_kind token.TypeName piece = type_kind piece
token_kind token.SymbolName piece = SymbolName
token_kind token.Text piece = Text
token_kind token.Number piece = Number
token_kind token.Sign piece = sign_kind piece

-- Numbers

-- the value of a digit, also of a hexadecimal one
abbrev pub digit_value : ℕ → ℕ
digit_value b = if nat_le b 57 then b - 48 else if nat_le b 70 then b - 55 else b - 87

-- the value of digits behind a value
abbrev pub value_from : ℕ → ℕ → List ℕ → ℕ
value_from base value [] = value
value_from base value (b ∷ bs) = value_from base (value * base + digit_value b) bs

-- these digits are a number above 2^128 - 1
unfoldable pub are_long : ℕ → List ℕ → Bool
are_long base digits = nat_le (2 ^ 128) (value_from base 0 digits)

-- a number token is one
unfoldable pub is_long_number : List ℕ → Bool
is_long_number (a ∷ b ∷ digits) = if a == 48 && b == 120 then are_long 16 digits else are_long 10 (a ∷ b ∷ digits)
is_long_number digits = are_long 10 digits

-- a word of this kind with these bytes is one
unfoldable pub is_long : Kind → List ℕ → Bool
is_long Number piece = is_long_number piece
is_long HashNumber piece = are_long 10 (drop 1 piece)
is_long Dimension piece = are_long 10 piece
is_long _ piece = false
