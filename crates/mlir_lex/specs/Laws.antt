-- What holds of every text that is cut into tokens.
use Rattle.std.specs.Prelude.{◌≡◌, ◌≤◌, ◌<◌, ◌-◌, ℕ, List, [], ◌∷◌, length, take, drop, Option, Some}
use Rattle.mlir_lex.specs.declared.Token.{Token}
use Rattle.mlir_lex.specs.declared.TokenKind.{TokenKind}
use Rattle.mlir_lex.specs.declared.LexFault.{LexFault}
use Rattle.mlir_lex.specs.Tokens.{IsToken}
use Rattle.mlir_lex.specs.declared.LexKind.{LexKind}
use Rattle.mlir_lex.specs.Text.{Lexes, IsGap, Stands}

-- the bytes from one place up to another
abbrev pub bytes_between : List ℕ → ℕ → ℕ → List ℕ
bytes_between text start end = take (end - start) (drop start text)

-- each of the tokens has a byte or more, begins at `from` or behind the one before, and ends within the text
abbrev pub AreInOrder : ℕ → ℕ → List Token → Type 0
AreInOrder from end [] = from ≤ end
AreInOrder from end (t ∷ ts) = (from ≤ t.start) × (t.start < t.end) × AreInOrder t.end end ts

-- spans are in order and don't overlap
abbrev pub SpansAreInOrder : Type 0
SpansAreInOrder = (text : List ℕ) (tokens : List Token) (fault : Option LexFault) → Lexes text tokens fault → AreInOrder 0 (length text) tokens

-- only white space and comments stand from `from` to the first of the tokens, and between each two of them
abbrev pub GapsAreBlank : List ℕ → ℕ → List Token → Type 0
GapsAreBlank text from [] = Unit {0}
GapsAreBlank text from (t ∷ ts) = IsGap (bytes_between text from t.start) (drop t.start text) × GapsAreBlank text t.end ts

-- between two tokens, and before the first, only white space and comments stand
abbrev pub OnlyGapsBetween : Type 0
OnlyGapsBetween = (text : List ℕ) (tokens : List Token) (fault : Option LexFault) → Lexes text tokens fault → GapsAreBlank text 0 tokens

-- the bytes of a token are one of its kind, and no longer token of any kind stands at its place
abbrev pub IsLongestIn : List ℕ → Token → Type 0
IsLongestIn text t = IsToken t.kind (bytes_between text t.start t.end) × ((kind : TokenKind) (end : ℕ) → IsToken kind (bytes_between text t.start end) → end ≤ length text → end ≤ t.end)

abbrev pub AreLongestIn : List ℕ → List Token → Type 0
AreLongestIn text [] = Unit {0}
AreLongestIn text (t ∷ ts) = IsLongestIn text t × AreLongestIn text ts

-- each token is the longest that fits
abbrev pub TokensAreLongest : Type 0
TokensAreLongest = (text : List ℕ) (tokens : List Token) (fault : Option LexFault) → Lexes text tokens fault → AreLongestIn text tokens

-- a text is cut in one way, and has one fault at most
abbrev pub CutsOnce : Type 0
CutsOnce = (text : List ℕ) (tokens others : List Token) (fault other : Option LexFault) → Lexes text tokens fault → Lexes text others other → (tokens ≡ others) × (fault ≡ other)

-- no fault stands where one of these tokens begins
abbrev pub NoFaultsAt : List ℕ → List Token → Type 0
NoFaultsAt text [] = Unit {0}
NoFaultsAt text (t ∷ ts) = ((kind : LexKind) (place : ℕ) → Stands kind t.start (drop t.start text) place → ⊥) × NoFaultsAt text ts

-- the fault is the first: none stands at a token before it, each of which ends before its place, and the place is in the text
abbrev pub FaultIsFirst : Type 0
FaultIsFirst = (text : List ℕ) (tokens : List Token) (fault : LexFault) → Lexes text tokens (Some fault) → NoFaultsAt text tokens × AreInOrder 0 fault.place tokens × (fault.place < length text)
