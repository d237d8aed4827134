-- How a text is cut into tokens, and where it has a fault.
use Rattle.std.specs.Prelude.{◌≡◌, ◌⊎◌, ◌+◌, ℕ, true, List, [], ◌∷◌, ◌++◌, length, drop, Option, Some, None, Result, Ok, Err}
use Rattle.std.specs.List.{list_all}
use Rattle.mlir_lex.specs.declared.Token.{Token}
use Rattle.mlir_lex.specs.declared.LexFault.{LexFault}
use Rattle.mlir_lex.specs.declared.LexKind.{LexKind}
use Rattle.mlir_lex.specs.declared.LexKind.TheVariants.{BadByte, OpenString, BadEscape}
use Rattle.mlir_lex.specs.Bytes.{is_blank, is_on_line, is_plain}
use Rattle.mlir_lex.specs.Tokens.{IsEscape, IsInside, IsLongest, NoToken}

-- the text is at its end, or a line feed comes next
unfoldable pub EndsLine : List ℕ → Type 0
EndsLine [] = Unit {0}
EndsLine (b ∷ bs) = b ≡ 10

-- white space and comments, where this text stands behind them; a comment is `//` and all that stands behind it on its line
pub data IsGap : List ℕ → List ℕ → Type 0 where
  no_gap : (rest : List ℕ) → IsGap [] rest
  blank : (b : ℕ) (gap rest : List ℕ) → is_blank b ≡ true → IsGap gap rest → IsGap (b ∷ gap) rest
  comment : (line gap rest : List ℕ) → list_all is_on_line line ≡ true → EndsLine (gap ++ rest) → IsGap gap rest → IsGap (47 ∷ 47 ∷ (line ++ gap)) rest

-- neither white space nor a comment begins this text
unfoldable pub IsClear : List ℕ → Type 0
IsClear text = (gap rest : List ℕ) → gap ++ rest ≡ text → IsGap gap rest → gap ≡ []

-- bytes in which no quote closes the string: none is a line feed, and a quote stands only behind a `\` that makes it a part of the string
pub data IsUnclosed : List ℕ → Type 0 where
  no_bytes : IsUnclosed []
  byte : (b : ℕ) (bs : List ℕ) → is_plain b ≡ true → IsUnclosed bs → IsUnclosed (b ∷ bs)
  pair : (b : ℕ) (bs : List ℕ) → is_on_line b ≡ true → IsUnclosed bs → IsUnclosed (92 ∷ b ∷ bs)

-- what stands behind a string's first quote has a quote that closes the string, before any line feed
unfoldable pub Closes : List ℕ → Type 0
Closes text = (front back : List ℕ) × (text ≡ front ++ 34 ∷ back) × IsUnclosed front

-- what stands before a string's quote: nothing, or the `@` of a symbol
unfoldable pub IsLead : List ℕ → Type 0
IsLead lead = (lead ≡ []) ⊎ (lead ≡ 64 ∷ [])

-- a `\` begins this text, and no escape does
pub record IsBadEscape (text : List ℕ) : Type 0 where
  pub more : List ℕ
  pub is : text ≡ 92 ∷ more
  pub none : (front back : List ℕ) → IsEscape front → front ++ back ≡ text → ⊥

-- the first byte of the text, at this place, is one with which no token begins, and no string that is cut or has a bad escape
pub record IsBadByte (at : ℕ) (text : List ℕ) (place : ℕ) : Type 0 where
  pub byte : ℕ
  pub more : List ℕ
  pub is : text ≡ byte ∷ more
  pub clear : IsClear text
  pub no_token : NoToken text
  pub no_string : (lead inside : List ℕ) → IsLead lead → lead ++ 34 ∷ inside ≡ text → ⊥
  pub here : place ≡ at

-- a string begins here, and a line feed or the end cuts it; the place is that of its quote
pub record IsOpenString (at : ℕ) (text : List ℕ) (place : ℕ) : Type 0 where
  pub lead : List ℕ
  pub inside : List ℕ
  pub is_lead : IsLead lead
  pub is : text ≡ lead ++ 34 ∷ inside
  pub open_end : Closes inside → ⊥
  pub here : place ≡ at + length lead

-- a string begins here and is closed, and this is its first `\` that begins no escape
pub record HasBadEscape (at : ℕ) (text : List ℕ) (place : ℕ) : Type 0 where
  pub lead : List ℕ
  pub good : List ℕ
  pub bad : List ℕ
  pub is_lead : IsLead lead
  pub is : text ≡ lead ++ 34 ∷ (good ++ bad)
  pub closes : Closes (good ++ bad)
  pub is_good : IsInside good
  pub is_bad : IsBadEscape bad
  pub here : place ≡ at + length lead + 1 + length good

-- a fault of this kind stands at this place, where the text begins at `at`
unfoldable pub Stands : LexKind → ℕ → List ℕ → ℕ → Type 0
Stands BadByte at text place = IsBadByte at text place
Stands OpenString at text place = IsOpenString at text place
Stands BadEscape at text place = HasBadEscape at text place

-- behind white space and comments stands this fault
pub record FailsAt (at : ℕ) (text : List ℕ) (fault : LexFault) : Type 0 where
  pub gap : List ℕ
  pub rest : List ℕ
  pub whole : text ≡ gap ++ rest
  pub is_gap : IsGap gap rest
  pub stands : Stands fault.kind (at + length gap) rest fault.place

-- behind white space and comments stands this token, the longest that fits, and behind it `rest`
pub record BeginsWith (at : ℕ) (text : List ℕ) (token : Token) (rest : List ℕ) : Type 0 where
  pub gap : List ℕ
  pub piece : List ℕ
  pub whole : text ≡ gap ++ (piece ++ rest)
  pub is_gap : IsGap gap (piece ++ rest)
  pub longest : IsLongest token.kind piece rest
  pub start : token.start ≡ at + length gap
  pub end : token.end ≡ token.start + length piece

-- the text, which begins at `at`, is cut into exactly these tokens, and then it ends or has this fault
unfoldable pub LexesFrom : ℕ → List ℕ → List Token → Option LexFault → Type 0
LexesFrom at text [] None = IsGap text []
LexesFrom at text [] (Some fault) = FailsAt at text fault
LexesFrom at text (t ∷ ts) fault = (rest : List ℕ) × BeginsWith at text t rest × LexesFrom t.end rest ts fault

-- the text is cut into exactly these tokens, and then it ends or has this fault
unfoldable pub Lexes : List ℕ → List Token → Option LexFault → Type 0
Lexes text tokens fault = LexesFrom 0 text tokens fault

-- what a lexer still gives: these tokens, and then it is at the end or has this fault
pub record Outcome : Type 0 where
  pub tokens : List Token
  pub fault : Option LexFault

-- what `next` gives: the first token, or how they end
abbrev pub first_of : List Token → Option LexFault → Result (Option Token) LexFault
first_of [] None = Ok None
first_of [] (Some fault) = Err fault
first_of (t ∷ ts) fault = Ok (Some t)

abbrev pub next_of : Outcome → Result (Option Token) LexFault
next_of o = first_of o.tokens o.fault

-- and what is left then: from a fault on the same
abbrev pub rest_of : Outcome → Outcome
rest_of o = record { tokens = drop 1 o.tokens; fault = o.fault }
