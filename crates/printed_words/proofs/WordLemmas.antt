-- Words that stand apart, each by its kind; and what may come behind a word.
use Rattle.std.proofs.Common.{◌≡◌, inl, inr, ℕ, ◌+◌, ◌%◌, ◌^◌, ◌<◌, Bool, true, false, ◌==◌, List, [], ◌∷◌, ◌++◌, refl, sym, ◌∙◌, arith}
use Rattle.std.specs.Prelude.{decimal}
use Rattle.std.specs.List.{list_all}
use Rattle.std.proofs.lemmas.Bool.{false≢true}
use Rattle.std.proofs.lemmas.Bool.Decides.{nat_tests}
use Rattle.std.proofs.lemmas.Fmt.{decimal_by_steps_wide}
use Rattle.mlir_lex.specs.declared.TokenKind.{TokenKind}
use Rattle.mlir_lex.specs.declared.TokenKind.TheVariants as token
use Rattle.mlir_lex.specs.Bytes.{is_digit, is_bare, is_sign, is_suffix_byte, starts_suffix, is_letter, is_blank}
use Rattle.mlir_lex.specs.Tokens.{is_run, IsToken, IsSign, IsName, IsString, IsSymbol}
use Rattle.mlir_lex.specs.Scan.{sign_len, begins}
use Rattle.mlir_lex.proofs.Lengths.{and-both, and-left, and-right}
use Rattle.text_grammar.specs.declared.kinds.Kind.{Kind}
use Rattle.text_grammar.specs.declared.kinds.Kind.TheVariants as kinds
use Rattle.text_grammar.specs.declared.places.Place.{Place}
use Rattle.text_grammar.specs.declared.cuts.Mode.{Mode}
use Rattle.text_grammar.specs.declared.cuts.Mode.TheVariants.{Plain, BehindMemref, Size, By}
use Rattle.text_grammar.specs.TokenKinds.{token_kind, bare_kind, hash_kind, type_kind, sign_kind, bracket_kind}
use Rattle.text_grammar.specs.Words.{part_len, mode_behind}
use Rattle.printed_words.specs.Words.{is_free, Stands, whole, are_blanks, PrintedWord, word, text_of, AreApart, one_word}

-- one word more
pub apart : {mode : Mode} {ws : List PrintedWord} {end : List ℕ} (gap : List ℕ) (place : Place) (kind : Kind) (bytes : List ℕ) → are_blanks gap ≡ true → Stands mode kind bytes (text_of ws end) → AreApart (mode_behind mode kind) ws end
    → AreApart mode (word gap place kind bytes ∷ ws) end
apart gap place kind bytes blanks stands h = one_word _ (word gap place kind bytes) _ _ blanks stands h

-- What may come behind a word

pub free-blank : (rest : List ℕ) → is_free (32 ∷ rest) ≡ true
unfolding is_free is_suffix_byte starts_suffix is_letter is_digit
free-blank rest = refl

pub free-line : (rest : List ℕ) → is_free (10 ∷ rest) ≡ true
unfolding is_free is_suffix_byte starts_suffix is_letter is_digit
free-line rest = refl

pub free-comma : (rest : List ℕ) → is_free (44 ∷ rest) ≡ true
unfolding is_free is_suffix_byte starts_suffix is_letter is_digit
free-comma rest = refl

pub free-colon : (rest : List ℕ) → is_free (58 ∷ rest) ≡ true
unfolding is_free is_suffix_byte starts_suffix is_letter is_digit
free-colon rest = refl

pub free-hash : (rest : List ℕ) → is_free (35 ∷ rest) ≡ true
unfolding is_free is_suffix_byte starts_suffix is_letter is_digit
free-hash rest = refl

pub free-open : (rest : List ℕ) → is_free (40 ∷ rest) ≡ true
unfolding is_free is_suffix_byte starts_suffix is_letter is_digit
free-open rest = refl

pub free-close : (rest : List ℕ) → is_free (41 ∷ rest) ≡ true
unfolding is_free is_suffix_byte starts_suffix is_letter is_digit
free-close rest = refl

pub free-less : (rest : List ℕ) → is_free (60 ∷ rest) ≡ true
unfolding is_free is_suffix_byte starts_suffix is_letter is_digit
free-less rest = refl

pub free-greater : (rest : List ℕ) → is_free (62 ∷ rest) ≡ true
unfolding is_free is_suffix_byte starts_suffix is_letter is_digit
free-greater rest = refl

pub free-square : (rest : List ℕ) → is_free (91 ∷ rest) ≡ true
unfolding is_free is_suffix_byte starts_suffix is_letter is_digit
free-square rest = refl

pub free-squared : (rest : List ℕ) → is_free (93 ∷ rest) ≡ true
unfolding is_free is_suffix_byte starts_suffix is_letter is_digit
free-squared rest = refl

pub free-brace : (rest : List ℕ) → is_free (123 ∷ rest) ≡ true
unfolding is_free is_suffix_byte starts_suffix is_letter is_digit
free-brace rest = refl

pub free-braced : (rest : List ℕ) → is_free (125 ∷ rest) ≡ true
unfolding is_free is_suffix_byte starts_suffix is_letter is_digit
free-braced rest = refl

-- Signs

-- no part of a memref's dimensions is told by a sign other than `?`
no-part : (mode : Mode) (b : ℕ) → (b == 63) ≡ false → part_len mode token.Sign (b ∷ []) ≡ 0
unfolding part_len
no-part Plain b h = refl
no-part BehindMemref b h = refl
no-part Size b h = rw h refl
no-part By b h = refl

sign-alone : (b : ℕ) (rest : List ℕ) → (b == 45) ≡ false → (b == 58) ≡ false → sign_len (b ∷ rest) ≡ 1
unfolding sign_len begins
sign-alone b rest m c = rw (m, c) refl

sign-token : (b : ℕ) → is_sign b ≡ true → IsToken token.Sign (b ∷ [])
unfolding IsToken IsSign
sign-token b h = inr (inr (b, refl, h))

one-sign : (mode : Mode) (kind : Kind) (b : ℕ) (rest : List ℕ) → is_sign b ≡ true → (b == 45) ≡ false → (b == 58) ≡ false → (b == 63) ≡ false → token_kind token.Sign (b ∷ []) ≡ kind → Stands mode kind (b ∷ []) rest
one-sign mode kind b rest s m c q k = whole mode kind token.Sign (b ∷ []) rest (sign-token b s, sign-alone b rest m c) (no-part mode b q) k

pub open-paren : (mode : Mode) (rest : List ℕ) → Stands mode kinds.OpenParen (40 ∷ []) rest
unfolding is_sign token_kind sign_kind bracket_kind
open-paren mode rest = one-sign mode kinds.OpenParen 40 rest refl refl refl refl refl

pub close-paren : (mode : Mode) (rest : List ℕ) → Stands mode kinds.CloseParen (41 ∷ []) rest
unfolding is_sign token_kind sign_kind bracket_kind
close-paren mode rest = one-sign mode kinds.CloseParen 41 rest refl refl refl refl refl

pub open-square : (mode : Mode) (rest : List ℕ) → Stands mode kinds.OpenSquare (91 ∷ []) rest
unfolding is_sign token_kind sign_kind bracket_kind
open-square mode rest = one-sign mode kinds.OpenSquare 91 rest refl refl refl refl refl

pub close-square : (mode : Mode) (rest : List ℕ) → Stands mode kinds.CloseSquare (93 ∷ []) rest
unfolding is_sign token_kind sign_kind bracket_kind
close-square mode rest = one-sign mode kinds.CloseSquare 93 rest refl refl refl refl refl

pub open-brace : (mode : Mode) (rest : List ℕ) → Stands mode kinds.OpenBrace (123 ∷ []) rest
unfolding is_sign token_kind sign_kind bracket_kind
open-brace mode rest = one-sign mode kinds.OpenBrace 123 rest refl refl refl refl refl

pub close-brace : (mode : Mode) (rest : List ℕ) → Stands mode kinds.CloseBrace (125 ∷ []) rest
unfolding is_sign token_kind sign_kind bracket_kind
close-brace mode rest = one-sign mode kinds.CloseBrace 125 rest refl refl refl refl refl

pub less : (mode : Mode) (rest : List ℕ) → Stands mode kinds.Less (60 ∷ []) rest
unfolding is_sign token_kind sign_kind bracket_kind
less mode rest = one-sign mode kinds.Less 60 rest refl refl refl refl refl

pub greater : (mode : Mode) (rest : List ℕ) → Stands mode kinds.Greater (62 ∷ []) rest
unfolding is_sign token_kind sign_kind bracket_kind
greater mode rest = one-sign mode kinds.Greater 62 rest refl refl refl refl refl

pub comma : (mode : Mode) (rest : List ℕ) → Stands mode kinds.Comma (44 ∷ []) rest
unfolding is_sign token_kind sign_kind bracket_kind
comma mode rest = one-sign mode kinds.Comma 44 rest refl refl refl refl refl

pub equals : (mode : Mode) (rest : List ℕ) → Stands mode kinds.Equals (61 ∷ []) rest
unfolding is_sign token_kind sign_kind bracket_kind
equals mode rest = one-sign mode kinds.Equals 61 rest refl refl refl refl refl

-- a `:`, unless another one follows
colon-alone : (rest : List ℕ) → begins 58 rest ≡ false → sign_len (58 ∷ rest) ≡ 1
unfolding sign_len begins
colon-alone rest h = rw h refl

pub colon : (mode : Mode) (rest : List ℕ) → begins 58 rest ≡ false → Stands mode kinds.Colon (58 ∷ []) rest
unfolding is_sign token_kind sign_kind bracket_kind
colon mode rest h = whole mode kinds.Colon token.Sign (58 ∷ []) rest (sign-token 58 refl, colon-alone rest h) (no-part mode 58 refl) refl

-- a `-`, unless a `>` follows
minus-alone : (rest : List ℕ) → begins 62 rest ≡ false → sign_len (45 ∷ rest) ≡ 1
unfolding sign_len begins
minus-alone rest h = rw h refl

pub minus : (mode : Mode) (rest : List ℕ) → begins 62 rest ≡ false → Stands mode kinds.Minus (45 ∷ []) rest
unfolding is_sign token_kind sign_kind bracket_kind
minus mode rest h = whole mode kinds.Minus token.Sign (45 ∷ []) rest (sign-token 45 refl, minus-alone rest h) (no-part mode 45 refl) refl

arrow-token : IsToken token.Sign (45 ∷ 62 ∷ [])
unfolding IsToken IsSign
arrow-token = inl refl

arrow-long : (rest : List ℕ) → sign_len (45 ∷ 62 ∷ rest) ≡ 2
unfolding sign_len begins
arrow-long rest = refl

arrow-part : (mode : Mode) → part_len mode token.Sign (45 ∷ 62 ∷ []) ≡ 0
unfolding part_len
arrow-part Plain = refl
arrow-part BehindMemref = refl
arrow-part Size = refl
arrow-part By = refl

pub arrow : (mode : Mode) (rest : List ℕ) → Stands mode kinds.Arrow (45 ∷ 62 ∷ []) rest
unfolding token_kind sign_kind
arrow mode rest = whole mode kinds.Arrow token.Sign (45 ∷ 62 ∷ []) rest (arrow-token, arrow-long rest) (arrow-part mode) refl

-- Bare identifiers

-- whether an `x` of dimensions may come next
abbrev pub may_be_by : Mode → Bool
may_be_by By = true
may_be_by _ = false

bare-part : (mode : Mode) (bytes : List ℕ) → may_be_by mode ≡ false → part_len mode token.Bare bytes ≡ 0
unfolding part_len
bare-part Plain bytes h = refl
bare-part BehindMemref bytes h = refl
bare-part Size bytes h = refl
bare-part By bytes h = absurd (false≢true (sym h))

bare-token : (bytes : List ℕ) → is_bare bytes ≡ true → IsToken token.Bare bytes
unfolding IsToken
bare-token bytes h = h

bare-kind : (bytes : List ℕ) → token_kind token.Bare bytes ≡ bare_kind bytes
unfolding token_kind
bare-kind bytes = refl

pub bare : (mode : Mode) (kind : Kind) (bytes rest : List ℕ) → may_be_by mode ≡ false → is_bare bytes ≡ true → bare_kind bytes ≡ kind → is_free rest ≡ true → Stands mode kind bytes rest
bare mode kind bytes rest m b k free = whole mode kind token.Bare bytes rest (bare-token bytes b, free) (bare-part mode bytes m) (bare-kind bytes ∙ k)

-- Other tokens, where no dimension is expected

other-part : (form : TokenKind) (bytes : List ℕ) → part_len Plain form bytes ≡ 0
unfolding part_len
other-part form bytes = refl

pub type-name : (kind : Kind) (bytes rest : List ℕ) → IsName 33 bytes → type_kind bytes ≡ kind → is_free rest ≡ true → Stands Plain kind bytes rest
unfolding IsToken token_kind
type-name kind bytes rest is k free = whole Plain kind token.TypeName bytes rest (is, free) (other-part token.TypeName bytes) k

pub hash-name : (kind : Kind) (bytes rest : List ℕ) → IsName 35 bytes → hash_kind bytes ≡ kind → is_free rest ≡ true → Stands Plain kind bytes rest
unfolding IsToken token_kind
hash-name kind bytes rest is k free = whole Plain kind token.AttrName bytes rest (is, free) (other-part token.AttrName bytes) k

pub value-name : (bytes rest : List ℕ) → IsName 37 bytes → is_free rest ≡ true → Stands Plain kinds.Value bytes rest
unfolding IsToken token_kind
value-name bytes rest is free = whole Plain kinds.Value token.ValueName bytes rest (is, free) (other-part token.ValueName bytes) refl

pub block-name : (bytes rest : List ℕ) → IsName 94 bytes → is_free rest ≡ true → Stands Plain kinds.Label bytes rest
unfolding IsToken token_kind
block-name bytes rest is free = whole Plain kinds.Label token.BlockName bytes rest (is, free) (other-part token.BlockName bytes) refl

pub symbol-name : (bytes rest : List ℕ) → IsSymbol bytes → is_free rest ≡ true → Stands Plain kinds.SymbolName bytes rest
unfolding IsToken token_kind
symbol-name bytes rest is free = whole Plain kinds.SymbolName token.SymbolName bytes rest (is, free) (other-part token.SymbolName bytes) refl

pub text : (bytes rest : List ℕ) → IsString bytes → Stands Plain kinds.Text bytes rest
unfolding IsToken token_kind
text bytes rest is = whole Plain kinds.Text token.Text bytes rest is (other-part token.Text bytes) refl

pub number : (bytes rest : List ℕ) → is_run is_digit bytes ≡ true → is_free rest ≡ true → Stands Plain kinds.Number bytes rest
unfolding token_kind
number bytes rest is free = whole Plain kinds.Number token.Number bytes rest (is, free) (other-part token.Number bytes) refl

-- Numbers in decimal

digit-is : (d : ℕ) → d < 10 → is_digit (48 + d) ≡ true
unfolding is_digit
digit-is d h = grind (arith, nat_tests)

run-one : (d : ℕ) → d < 10 → is_run is_digit ((48 + d) ∷ []) ≡ true
unfolding is_run
run-one d h = rw (digit-is d h) refl

all-more : (ds : List ℕ) (d : ℕ) → d < 10 → list_all is_digit ds ≡ true → list_all is_digit (ds ++ (48 + d) ∷ []) ≡ true
all-more [] d h all = rw (digit-is d h) refl
all-more (c ∷ ds) d h all = and-both _ _ (and-left (is_digit c) _ all) (all-more ds d h (and-right (is_digit c) _ all))

run-more : (ds : List ℕ) (d : ℕ) → d < 10 → is_run is_digit ds ≡ true → is_run is_digit (ds ++ (48 + d) ∷ []) ≡ true
unfolding is_run
run-more [] d h all = absurd (false≢true all)
run-more (c ∷ ds) d h all = all-more (c ∷ ds) d h all

pub decimal-digits : (n : ℕ) → n < 10 ^ 64 → is_run is_digit (decimal n) ≡ true
decimal-digits n h = decimal_by_steps_wide (λ m ds. is_run is_digit ds ≡ true) (λ m l. run-one m l) (λ m ds l r. run-more ds (m % 10) (omega arith) r) n h

-- one blank
pub one_blank : are_blanks (32 ∷ []) ≡ true
unfolding is_blank
one_blank = refl
