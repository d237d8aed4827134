-- Words as a printer writes them, their text, and when each stands apart from what is behind it.
use Rattle.std.specs.Prelude.{◌≡◌, ℕ, ◌+◌, Bool, true, not, List, [], ◌∷◌, ◌++◌, map, length, None}
use Rattle.std.specs.List.{list_all}
use Rattle.mlir_lex.specs.declared.TokenKind.{TokenKind}
use Rattle.mlir_lex.specs.declared.TokenKind.TheVariants as token
use Rattle.mlir_lex.specs.Bytes.{is_blank, is_digit, is_suffix_byte}
use Rattle.mlir_lex.specs.Tokens.{is_run, IsToken}
use Rattle.mlir_lex.specs.Scan.{sign_len}
use Rattle.line_grammar.specs.Grammar.{Reads}
use Rattle.text_grammar.specs.declared.kinds.Kind.{Kind}
use Rattle.text_grammar.specs.declared.kinds.Kind.TheVariants as kinds
use Rattle.text_grammar.specs.declared.places.Place.{Place}
use Rattle.text_grammar.specs.declared.words.Word.{Word}
use Rattle.text_grammar.specs.declared.cuts.Mode.{Mode}
use Rattle.text_grammar.specs.declared.cuts.Mode.TheVariants.{Plain, Size, By}
use Rattle.text_grammar.specs.TokenKinds.{token_kind, is_long}
use Rattle.text_grammar.specs.Table.{Wanted, generic}
use Rattle.text_grammar.specs.Words.{mode_behind, part_len, AreWords}

-- a printed word: the white space before it, its place in the grammar, its kind and its bytes
pub record PrintedWord : Type 0 where
  pub gap : List ℕ
  pub place : Place
  pub kind : Kind
  pub bytes : List ℕ

abbrev pub word : List ℕ → Place → Kind → List ℕ → PrintedWord
word gap place kind bytes = record { gap = gap; place = place; kind = kind; bytes = bytes }

-- a word without white space before it
abbrev pub sign : Place → Kind → List ℕ → PrintedWord
sign place kind bytes = word [] place kind bytes

-- the text of words, before what ends it
abbrev pub text_of : List PrintedWord → List ℕ → List ℕ
text_of [] end = end
text_of (w ∷ ws) end = w.gap ++ (w.bytes ++ text_of ws end)

-- the word whose bytes begin at a byte of the text
abbrev pub word_at : ℕ → PrintedWord → Word
word_at start w = record { kind = w.kind; long = is_long w.kind w.bytes; start = start; end = start + length w.bytes }

-- the words of a text that begins at a byte
abbrev pub words_from : ℕ → List PrintedWord → List Word
words_from at [] = []
words_from at (w ∷ ws) = word_at (at + length w.gap) w ∷ words_from (at + length w.gap + length w.bytes) ws

-- white space
abbrev pub are_blanks : List ℕ → Bool
are_blanks gap = list_all is_blank gap

-- no byte of a name or a number comes next
unfoldable pub is_free : List ℕ → Bool
is_free [] = true
is_free (b ∷ rest) = not (is_suffix_byte b)

-- the bytes are a token, and what stands behind doesn't make it longer: a string ends at its quote, a sign takes no second byte, and behind each other token nothing of a name or a number comes
abbrev pub IsApart : TokenKind → List ℕ → List ℕ → Type 0
IsApart token.Text bytes rest = IsToken token.Text bytes
IsApart token.Sign bytes rest = IsToken token.Sign bytes × (sign_len (bytes ++ rest) ≡ length bytes)
IsApart token.Number bytes rest = (is_run is_digit bytes ≡ true) × (is_free rest ≡ true)
IsApart kind bytes rest = IsToken kind bytes × (is_free rest ≡ true)

-- where the words before leave this to expect, the bytes are a word of this kind, apart from the rest
pub data Stands : Mode → Kind → List ℕ → List ℕ → Type 0 where
  -- a whole token
  whole : (mode : Mode) (kind : Kind) (form : TokenKind) (bytes rest : List ℕ) → IsApart form bytes rest → part_len mode form bytes ≡ 0 → token_kind form bytes ≡ kind → Stands mode kind bytes rest
  -- a dimension before its `x`, a number or `?`
  size : (bytes rest : List ℕ) → is_run is_digit bytes ≡ true → Stands Size kinds.Dimension bytes (120 ∷ rest)
  unknown : (rest : List ℕ) → Stands Size kinds.Dimension (63 ∷ []) (120 ∷ rest)
  -- this `x`, whatever stands behind
  by : (rest : List ℕ) → Stands By kinds.DimensionX (120 ∷ []) rest

-- the words are what these symbols of the grammar describe, and stand at these places
pub record AreRead (wanted : List Wanted) (ws : List PrintedWord) : Type 0 where
  pub is : Reads generic wanted (map (λ w. w.place) ws) (map (λ w. w.kind) ws)

-- each of the words stands apart from those behind it, and only white space stands between them
pub data AreApart : Mode → List PrintedWord → List ℕ → Type 0 where
  no_word : (mode : Mode) (end : List ℕ) → are_blanks end ≡ true → AreApart mode [] end
  one_word : (mode : Mode) (w : PrintedWord) (ws : List PrintedWord) (end : List ℕ) → are_blanks w.gap ≡ true → Stands mode w.kind w.bytes (text_of ws end) → AreApart (mode_behind mode w.kind) ws end → AreApart mode (w ∷ ws) end

-- the same whatever words stand before
abbrev pub AreAlwaysApart : List PrintedWord → List ℕ → Type 0
AreAlwaysApart ws end = (mode : Mode) → AreApart mode ws end

-- where words stand apart their text is cut into these words
abbrev pub WordsAreCut : Type 0
WordsAreCut = (ws : List PrintedWord) (end : List ℕ) → AreApart Plain ws end → AreWords (text_of ws end) (words_from 0 ws) None
