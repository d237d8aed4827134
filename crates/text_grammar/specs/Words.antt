-- The words of a text: its tokens, but of a memref's dimensions each is a word of its own.
use Rattle.std.specs.Prelude.{◌≡◌, ℕ, ◌+◌, ◌-◌, ◌==◌, ◌<◌, ◌≤◌, List, [], ◌∷◌, ◌++◌, length, take, drop, Option, Some, None, Result, Ok, Err, if◌then◌else◌}
use Rattle.std.specs.List.{prefix_len}
use Rattle.mlir_lex.specs.Bytes.{is_digit}
use Rattle.mlir_lex.specs.declared.Token.{Token}
use Rattle.mlir_lex.specs.declared.TokenKind.{TokenKind}
use Rattle.mlir_lex.specs.declared.TokenKind.TheVariants as token
use Rattle.mlir_lex.specs.declared.LexFault.{LexFault}
use Rattle.mlir_lex.specs.Text.{IsGap, FailsAt, BeginsWith}
use Rattle.text_grammar.specs.declared.kinds.Kind.{Kind}
use Rattle.text_grammar.specs.declared.kinds.Kind.TheVariants as kinds
use Rattle.text_grammar.specs.declared.words.Word.{Word}
use Rattle.text_grammar.specs.declared.cuts.Mode.{Mode}
use Rattle.text_grammar.specs.declared.cuts.Mode.TheVariants.{Plain, BehindMemref, Size, By}
use Rattle.text_grammar.specs.TokenKinds.{token_kind, is_long}

-- what the words before say of the next: a dimension may come behind `memref` `<` and behind an `x` of dimensions; such an `x` may come behind a dimension
abbrev pub mode_behind : Mode → Kind → Mode
mode_behind mode kinds.WordMemref = BehindMemref
mode_behind BehindMemref kinds.Less = Size
mode_behind mode kinds.Dimension = By
mode_behind mode kinds.DimensionX = Size
mode_behind mode _ = Plain

-- 1 where the byte is the first
abbrev pub one_if : ℕ → List ℕ → ℕ
one_if b [] = 0
one_if b (c ∷ cs) = if c == b then 1 else 0

-- how many bytes of a token are a dimension or an `x`, or 0: of a number its digits up to another byte, `?`, and of a bare identifier an `x` at its head
unfoldable pub part_len : Mode → TokenKind → List ℕ → ℕ
part_len Size token.Number piece = prefix_len is_digit piece
part_len Size token.Sign piece = one_if 63 piece
part_len By token.Bare piece = one_if 120 piece
part_len _ _ piece = 0

abbrev pub part_kind : Mode → Kind
part_kind By = kinds.DimensionX
part_kind _ = kinds.Dimension

-- how many bytes of a token are taken, and as what
unfoldable pub cut_len : Mode → TokenKind → List ℕ → ℕ
cut_len mode kind piece = if part_len mode kind piece == 0 then length piece else part_len mode kind piece

unfoldable pub cut_kind : Mode → TokenKind → List ℕ → Kind
cut_kind mode kind piece = if part_len mode kind piece == 0 then token_kind kind piece else part_kind mode

-- the word at the head of a token whose bytes these are, which begins at `start`
unfoldable pub word_of : Mode → TokenKind → List ℕ → ℕ → Word
word_of mode kind piece start = record {
  kind = cut_kind mode kind piece;
  long = is_long (cut_kind mode kind piece) (take (cut_len mode kind piece) piece);
  start = start;
  end = start + cut_len mode kind piece;
}

-- the bytes of a token
abbrev pub piece_of : List ℕ → Token → List ℕ
piece_of text t = take (t.end - t.start) (drop t.start text)

-- the text, which begins at `at`, begins with this word
pub record HasWord (mode : Mode) (at : ℕ) (text : List ℕ) (word : Word) : Type 0 where
  pub token : Token
  pub behind : List ℕ
  pub begins : BeginsWith 0 text token behind
  pub is : word ≡ word_of mode token.kind (piece_of text token) (at + token.start)

-- the text, which begins at `at`, has this fault behind white space and comments
pub record HasFault (at : ℕ) (text : List ℕ) (fault : LexFault) : Type 0 where
  pub here : LexFault
  pub fails : FailsAt 0 text here
  pub is : fault ≡ record { place = at + here.place; kind = here.kind }

-- the text, which begins at `at`, is cut into exactly these words, and then it ends or has this fault
unfoldable pub WordsFrom : Mode → ℕ → List ℕ → List Word → Option LexFault → Type 0
WordsFrom mode at text [] None = IsGap text []
WordsFrom mode at text [] (Some fault) = HasFault at text fault
WordsFrom mode at text (w ∷ ws) fault = HasWord mode at text w × WordsFrom (mode_behind mode w.kind) w.end (drop (w.end - at) text) ws fault

-- the text is cut into exactly these words, and then it ends or has this fault
unfoldable pub AreWords : List ℕ → List Word → Option LexFault → Type 0
AreWords text words fault = WordsFrom Plain 0 text words fault

-- what stands first in a text
abbrev pub IsFirst : List ℕ → Result (Option Token) LexFault → Type 0
IsFirst text (Ok None) = IsGap text []
IsFirst text (Ok (Some t)) = (behind : List ℕ) × BeginsWith 0 text t behind × (t.start < t.end) × (t.end ≤ length text)
IsFirst text (Err fault) = FailsAt 0 text fault × (fault.place < length text)

-- what is cut off the rest comes behind the words so far
abbrev pub IsSoFar : List ℕ → List Word → Mode → ℕ → Type 0
IsSoFar text words mode at = (more : List Word) (fault : Option LexFault) → WordsFrom mode at (drop at text) more fault → AreWords text (words ++ more) fault
