-- What the lexer computes, length by length. `Text` says what it means, and the laws of proofs/ tie the two.
use Rattle.std.specs.Prelude.{◌≡◌, ℕ, ◌+◌, ◌==◌, suc, zero, Bool, true, false, ◌&&◌, if◌then◌else◌, List, [], ◌∷◌, length, drop, take_while, Option, Some, None, Result, Ok, Err}
use Rattle.mlir_lex.specs.declared.Token.{Token}
use Rattle.mlir_lex.specs.declared.TokenKind.{TokenKind}
use Rattle.mlir_lex.specs.declared.TokenKind.TheVariants.{Bare, ValueName, BlockName, AttrName, TypeName, SymbolName, Text, Number, Sign}
use Rattle.mlir_lex.specs.declared.LexFault.{LexFault}
use Rattle.mlir_lex.specs.declared.LexKind.TheVariants.{BadByte, OpenString, BadEscape}
use Rattle.mlir_lex.specs.Text.{Outcome}
use Rattle.mlir_lex.specs.Bytes.{is_blank, is_on_line, is_digit, is_hex_digit, starts_bare, is_bare_byte, starts_suffix, is_suffix_byte, is_plain, is_short_escape, is_sign}

-- what a test of bytes may answer is whether the byte is of the class
abbrev pub Tests : (ℕ → Bool → Type 0) → (ℕ → Bool) → Type 0
Tests answers class = (b : ℕ) (is : Bool) → answers b is → is ≡ class b

-- how many bytes of the class the text begins with
unfoldable pub run : (ℕ → Bool) → List ℕ → ℕ
run class text = length (take_while class text)

-- a byte of the class comes next
unfoldable pub next_is : (ℕ → Bool) → List ℕ → Bool
next_is class [] = false
next_is class (c ∷ cs) = class c

-- this byte comes next
unfoldable pub begins : ℕ → List ℕ → Bool
begins b [] = false
begins b (c ∷ cs) = c == b

-- this many bytes behind the first so many, where there are any
unfoldable pub behind : ℕ → ℕ → ℕ
behind front zero = 0
behind front (suc n) = front + suc n

-- one more than what stands behind the first byte, where the piece has any
abbrev pub pieces_from : ℕ → (ℕ → ℕ) → ℕ
pieces_from zero more = 0
pieces_from (suc k) more = suc (more k)

-- how many bytes the pieces at the head of the text have, one behind the other: `piece` gives the length of the first,
-- and k is how many bytes of a piece are still to be passed
unfoldable pub pieces : (List ℕ → ℕ) → ℕ → List ℕ → ℕ
pieces piece k [] = 0
pieces piece (suc k) (b ∷ bs) = suc (pieces piece k bs)
pieces piece zero (b ∷ bs) = pieces_from (piece (b ∷ bs)) (λ k. pieces piece k bs)

-- a comment at the head of the text, without its line feed
unfoldable pub comment_len : List ℕ → ℕ
comment_len text = if begins 47 text && begins 47 (drop 1 text) then 2 + run is_on_line (drop 2 text) else 0

-- one byte of white space, or a comment
unfoldable pub gap_piece : List ℕ → ℕ
gap_piece text = if next_is is_blank text then 1 else comment_len text

-- an escape
unfoldable pub escape_len : List ℕ → ℕ
escape_len text =
    if begins 92 text && next_is is_short_escape (drop 1 text) then 2
    else if begins 92 text && next_is is_hex_digit (drop 1 text) && next_is is_hex_digit (drop 2 text) then 3
    else 0

-- one plain byte of a string, or an escape
unfoldable pub string_piece : List ℕ → ℕ
string_piece text = if next_is is_plain text then 1 else escape_len text

-- what may stand between the quotes, up to the first byte that may not
unfoldable pub inside_len : List ℕ → ℕ
inside_len text = pieces string_piece 0 text

-- whether a quote closes the string before a line feed, where a `\` stands before the text or not
unfoldable pub closes : Bool → List ℕ → Bool
closes escaped [] = false
closes escaped (b ∷ bs) = if b == 10 then false else if escaped then closes false bs else if b == 34 then true else closes (b == 92) bs

-- a string with its quotes
unfoldable pub string_len : List ℕ → ℕ
string_len text = if begins 34 text && begins 34 (drop (inside_len (drop 1 text)) (drop 1 text)) then inside_len (drop 1 text) + 2 else 0

-- a suffix
unfoldable pub suffix_len : List ℕ → ℕ
suffix_len text = if next_is is_digit text then run is_digit text else if next_is starts_suffix text then run is_suffix_byte text else 0

-- a suffix or a string
unfoldable pub symbol_tail_len : List ℕ → ℕ
symbol_tail_len text = if begins 34 text then string_len text else suffix_len text

-- a number
unfoldable pub number_len : List ℕ → ℕ
number_len text =
    if begins 48 text && begins 120 (drop 1 text) && next_is is_hex_digit (drop 2 text) then 2 + run is_hex_digit (drop 2 text)
    else run is_digit text

-- a sign
unfoldable pub sign_len : List ℕ → ℕ
sign_len text =
    if begins 45 text && begins 62 (drop 1 text) then 2
    else if begins 58 text && begins 58 (drop 1 text) then 2
    else 1

-- the kind of the tokens that begin with this byte
unfoldable pub kind_of : ℕ → Option TokenKind
kind_of b =
    if starts_bare b then Some Bare
    else if is_digit b then Some Number
    else if b == 37 then Some ValueName
    else if b == 94 then Some BlockName
    else if b == 35 then Some AttrName
    else if b == 33 then Some TypeName
    else if b == 64 then Some SymbolName
    else if b == 34 then Some Text
    else if is_sign b then Some Sign
    else None

-- the longest token of the kind, where the text begins with a byte of the kind
unfoldable pub length_of : TokenKind → List ℕ → ℕ
length_of Bare text = run is_bare_byte text
length_of ValueName text = behind 1 (suffix_len (drop 1 text))
length_of BlockName text = behind 1 (suffix_len (drop 1 text))
length_of AttrName text = behind 1 (suffix_len (drop 1 text))
length_of TypeName text = behind 1 (suffix_len (drop 1 text))
length_of SymbolName text = behind 1 (symbol_tail_len (drop 1 text))
length_of Text text = string_len text
length_of Number text = number_len text
length_of Sign text = sign_len text

-- the kind of the tokens with which the text may begin
unfoldable pub kind_at : List ℕ → Option TokenKind
kind_at [] = None
kind_at (b ∷ bs) = kind_of b

-- the length of the longest token of this kind, if it is one
abbrev pub length_of_some : Option TokenKind → List ℕ → ℕ
length_of_some None text = 0
length_of_some (Some kind) text = length_of kind text

-- how many bytes the token at the head of the text has, and 0 where none begins it
unfoldable pub token_len : List ℕ → ℕ
token_len text = length_of_some (kind_at text) text

-- the fault of a string whose quote stands at `quote`, and of which no token is made
unfoldable pub string_fault : ℕ → List ℕ → LexFault
string_fault quote inside =
    if closes false inside then record { place = quote + 1 + inside_len inside; kind = BadEscape }
    else record { place = quote; kind = OpenString }

-- the fault of a text that begins at `at`, where neither a token nor a gap begins it
unfoldable pub fault_at : ℕ → List ℕ → LexFault
fault_at at text =
    if begins 34 text then string_fault at (drop 1 text)
    else if begins 64 text && begins 34 (drop 1 text) then string_fault (at + 1) (drop 2 text)
    else record { place = at; kind = BadByte }

-- white space and comments
unfoldable pub gap_len : List ℕ → ℕ
gap_len text = pieces gap_piece 0 text

-- the token of this kind and length at the head of the text, which begins at `at`; where it has no bytes there is a fault
abbrev pub read_token : ℕ → List ℕ → TokenKind → ℕ → Result (Option Token) LexFault
read_token at text kind zero = Err (fault_at at text)
read_token at text kind (suc n) = Ok (Some (record { kind = kind; start = at; end = at + suc n }))

-- the token of this kind, or the fault where no token begins
abbrev pub read_kind : ℕ → List ℕ → Option TokenKind → Result (Option Token) LexFault
read_kind at text None = Err (fault_at at text)
read_kind at text (Some kind) = read_token at text kind (length_of kind text)

-- what stands first in a text that begins at `at`, where no gap does
unfoldable pub read_clear : ℕ → List ℕ → Result (Option Token) LexFault
read_clear at [] = Ok None
read_clear at (b ∷ bs) = read_kind at (b ∷ bs) (kind_of b)

-- what stands first in a text that begins at `at`
unfoldable pub read_first : ℕ → List ℕ → Result (Option Token) LexFault
read_first at text = read_clear (at + gap_len text) (drop (gap_len text) text)

-- goes on behind a gap or a token, or ends with a fault
abbrev pub outcome_from : ℕ → Result (Option Token) LexFault → ℕ → (ℕ → Outcome) → Outcome
outcome_from (suc g) first length more = more g
outcome_from zero (Ok (Some t)) (suc n) more = record { tokens = t ∷ (more n).tokens; fault = (more n).fault }
outcome_from zero (Ok (Some t)) zero more = record { tokens = []; fault = None }
outcome_from zero (Ok None) length more = record { tokens = []; fault = None }
outcome_from zero (Err e) length more = record { tokens = []; fault = Some e }

-- the tokens of a text that begins at `at`, and how they end, where k bytes of a gap or a token are still to be passed
unfoldable pub outcome : ℕ → ℕ → List ℕ → Outcome
outcome at k [] = record { tokens = []; fault = None }
outcome at (suc k) (b ∷ bs) = outcome (suc at) k bs
outcome at zero (b ∷ bs) = outcome_from (gap_piece (b ∷ bs)) (read_clear at (b ∷ bs)) (token_len (b ∷ bs)) (λ k. outcome (suc at) k bs)

-- the same, where the lexer has met this fault
abbrev pub outcome_after : Option LexFault → ℕ → List ℕ → Outcome
outcome_after None at text = outcome at 0 text
outcome_after (Some fault) at text = record { tokens = []; fault = Some fault }
