-- A token that stands apart is as long as what the lexer computes.
use Rattle.std.proofs.Common.{◌≡◌, ◌⊎◌, inl, inr, ℕ, ◌+◌, ◌<◌, suc, zero, Bool, true, false, not, ◌&&◌, ◌==◌, cond, List, [], ◌∷◌, ◌++◌, length, drop, refl, sym, ap, ◌∙◌, arith}
use Rattle.std.specs.List.{list_all}
use Rattle.std.proofs.lemmas.Bool.{false≢true}
use Rattle.std.proofs.lemmas.Bool.Decides.{nat_tests}
use Rattle.mlir_lex.specs.declared.TokenKind.{TokenKind}
use Rattle.mlir_lex.specs.declared.TokenKind.TheVariants as token
use Rattle.mlir_lex.specs.Bytes.{is_digit, is_letter, is_bare_byte, starts_bare, starts_suffix, is_suffix_byte, is_hex_digit, is_bare}
use Rattle.mlir_lex.specs.Tokens.{is_run, IsToken, IsNumber, IsSuffix, IsName, IsSymbol, IsString}
use Rattle.mlir_lex.specs.Scan.{run, next_is, begins, behind, suffix_len, symbol_tail_len, string_len, number_len, length_of}
use Rattle.mlir_lex.proofs.Runs.{run-yes, run-no, run-nil}
use Rattle.mlir_lex.proofs.Lengths.{and-left, and-right, and-both, bare-goes-on, suffix-no-quote}
use Rattle.mlir_lex.proofs.StringLemmas.{string-front}
use Rattle.printed_words.specs.Words.{is_free, IsApart}

-- a run of a class that holds of no byte behind
run-exact : (p : ℕ → Bool) (front back : List ℕ) → list_all p front ≡ true → next_is p back ≡ false → run p (front ++ back) ≡ length front
unfolding next_is
run-exact p [] [] h k = run-nil p
run-exact p [] (b ∷ bs) h k = run-no p b bs k
run-exact p (b ∷ front) back h k = run-yes p b (front ++ back) (and-left _ _ h) ∙ ap suc (run-exact p front back (and-right (p b) _ h) k)

not-true : (t : Bool) → not t ≡ true → t ≡ false
not-true true h = sym h
not-true false h = refl

free-suffix : (rest : List ℕ) → is_free rest ≡ true → next_is is_suffix_byte rest ≡ false
unfolding next_is is_free
free-suffix [] h = refl
free-suffix (b ∷ bs) h = not-true _ h

digit-suffix : (b : ℕ) → is_suffix_byte b ≡ false → is_digit b ≡ false
unfolding is_suffix_byte is_digit starts_suffix is_letter
digit-suffix b h = grind (arith, nat_tests)

bare-suffix : (b : ℕ) → is_suffix_byte b ≡ false → is_bare_byte b ≡ false
unfolding is_suffix_byte is_bare_byte is_digit starts_suffix is_letter
bare-suffix b h = grind (arith, nat_tests)

free-digit : (rest : List ℕ) → is_free rest ≡ true → next_is is_digit rest ≡ false
unfolding next_is is_free
free-digit [] h = refl
free-digit (b ∷ bs) h = digit-suffix b (not-true _ h)

free-bare : (rest : List ℕ) → is_free rest ≡ true → next_is is_bare_byte rest ≡ false
unfolding next_is is_free
free-bare [] h = refl
free-bare (b ∷ bs) h = bare-suffix b (not-true _ h)

-- a free rest doesn't begin with an `x`
free-x : (rest : List ℕ) → is_free rest ≡ true → begins 120 rest ≡ false
unfolding begins is_free is_suffix_byte starts_suffix is_letter
free-x [] h = refl
free-x (b ∷ bs) h = by_test (b == 120) refl
  where
    by_test : (t : Bool) → (b == 120) ≡ t → (b == 120) ≡ false
    by_test false e = e
    by_test true e = grind (arith, nat_tests)

-- suffixes
suffix-digit : (b : ℕ) → starts_suffix b ≡ true → is_digit b ≡ false
unfolding starts_suffix is_digit is_letter
suffix-digit b h = grind (arith, nat_tests)

suffix-goes-on : (b : ℕ) → starts_suffix b ≡ true → is_suffix_byte b ≡ true
unfolding is_suffix_byte
suffix-goes-on b h = rw h refl

pub suffix-exact : (s rest : List ℕ) → IsSuffix s → is_free rest ≡ true → suffix_len (s ++ rest) ≡ length s
unfolding suffix_len next_is IsSuffix is_run
suffix-exact [] rest (inl h) free = absurd (false≢true h)
suffix-exact [] rest (inr h) free = absurd (false≢true h)
suffix-exact (b ∷ bs) rest (inl h) free = rw (and-left (is_digit b) _ h) (run-exact is_digit (b ∷ bs) rest h (free-digit rest free))
suffix-exact (b ∷ bs) rest (inr h) free =
    let f = and-left (starts_suffix b) _ h in
    rw (suffix-digit b f, f) (run-exact is_suffix_byte (b ∷ bs) rest (and-both _ _ (suffix-goes-on b f) (and-right (starts_suffix b) _ h)) (free-suffix rest free))

pub bare-exact : (bytes rest : List ℕ) → is_bare bytes ≡ true → is_free rest ≡ true → run is_bare_byte (bytes ++ rest) ≡ length bytes
bare-exact [] rest h free = absurd (false≢true h)
bare-exact (b ∷ bs) rest h free =
    run-exact is_bare_byte (b ∷ bs) rest (and-both _ _ (bare-goes-on b (and-left (starts_bare b) _ h)) (and-right (starts_bare b) _ h)) (free-bare rest free)

digits-token : (bytes : List ℕ) → is_run is_digit bytes ≡ true → IsToken token.Number bytes
unfolding IsToken IsNumber
digits-token bytes h = inl h

-- a sign of one byte behind which a tail of some length stands
behind-exact : (n m : ℕ) → 0 < m → n ≡ m → behind 1 n ≡ suc m
unfolding behind
behind-exact zero m some e = absurd (omega arith)
behind-exact (suc n) m some e = omega arith

suffix-some : (s : List ℕ) → IsSuffix s → 0 < length s
unfolding IsSuffix is_run
suffix-some [] (inl h) = absurd (false≢true h)
suffix-some [] (inr h) = absurd (false≢true h)
suffix-some (b ∷ bs) h = omega arith

string-some : (s : List ℕ) → IsString s → 0 < length s
unfolding IsString
string-some s h = let e : length s ≡ length (34 ∷ (h.0 ++ 34 ∷ [])) = ap length h.1 in omega arith

name-exact : (sign : ℕ) (bytes rest : List ℕ) → IsName sign bytes → is_free rest ≡ true → behind 1 (suffix_len (drop 1 (bytes ++ rest))) ≡ length bytes
unfolding IsName
name-exact sign bytes rest h free =
    let s = h.0 in
    let is : bytes ≡ sign ∷ s = h.1 in
    rw is (behind-exact (suffix_len (s ++ rest)) (length s) (suffix-some s h.2) (suffix-exact s rest h.2 free))

string-begins : (s rest : List ℕ) → IsString s → begins 34 (s ++ rest) ≡ true
unfolding IsString begins
string-begins s rest h = rw h.1 refl

symbol-exact : (bytes rest : List ℕ) → IsSymbol bytes → is_free rest ≡ true → behind 1 (symbol_tail_len (drop 1 (bytes ++ rest))) ≡ length bytes
unfolding IsSymbol symbol_tail_len
symbol-exact bytes rest h free =
    let s = h.0 in
    let is : bytes ≡ 64 ∷ s = h.1 in
    rw is (by_tail s h.2)
  where
    by_tail : (s : List ℕ) → IsSuffix s ⊎ IsString s → behind 1 (cond (begins 34 (s ++ rest)) (string_len (s ++ rest)) (suffix_len (s ++ rest))) ≡ suc (length s)
    by_tail s (inl suffix) = rw (suffix-no-quote s rest suffix) (behind-exact (suffix_len (s ++ rest)) (length s) (suffix-some s suffix) (suffix-exact s rest suffix free))
    by_tail s (inr string) = rw (string-begins s rest string) (behind-exact (string_len (s ++ rest)) (length s) (string-some s string) (string-front s rest string))

digit-x : (b : ℕ) → is_digit b ≡ true → (b == 120) ≡ false
unfolding is_digit
digit-x b h = grind (arith, nat_tests)

-- digits have no `x` behind the first
no-x : (b : ℕ) (bs rest : List ℕ) → list_all is_digit bs ≡ true → is_free rest ≡ true → begins 120 (bs ++ rest) ≡ false
unfolding begins
no-x b [] rest h free = free-x rest free
no-x b (c ∷ bs) rest h free = digit-x c (and-left _ _ h)

no-hex : (s t u : Bool) (m n : ℕ) → t ≡ false → cond (s && t && u) m n ≡ n
no-hex true true u m n h = absurd (false≢true (sym h))
no-hex true false u m n h = refl
no-hex false t u m n h = refl

pub number-exact : (bytes rest : List ℕ) → is_run is_digit bytes ≡ true → is_free rest ≡ true → number_len (bytes ++ rest) ≡ length bytes
unfolding number_len is_run begins
number-exact [] rest h free = absurd (false≢true h)
number-exact (b ∷ bs) rest h free =
    no-hex (b == 48) (begins 120 (bs ++ rest)) (next_is is_hex_digit (drop 1 (bs ++ rest))) (2 + run is_hex_digit (drop 1 (bs ++ rest))) (run is_digit (b ∷ bs ++ rest)) (no-x b bs rest (and-right (is_digit b) _ h) free)
    ∙ run-exact is_digit (b ∷ bs) rest h (free-digit rest free)

-- each token that stands apart
pub token-exact : (kind : TokenKind) (bytes rest : List ℕ) → IsApart kind bytes rest → length_of kind (bytes ++ rest) ≡ length bytes
unfolding length_of IsToken
token-exact token.Bare bytes rest h = bare-exact bytes rest h.0 h.1
token-exact token.ValueName bytes rest h = name-exact 37 bytes rest h.0 h.1
token-exact token.BlockName bytes rest h = name-exact 94 bytes rest h.0 h.1
token-exact token.AttrName bytes rest h = name-exact 35 bytes rest h.0 h.1
token-exact token.TypeName bytes rest h = name-exact 33 bytes rest h.0 h.1
token-exact token.SymbolName bytes rest h = symbol-exact bytes rest h.0 h.1
token-exact token.Text bytes rest h = string-front bytes rest h
token-exact token.Number bytes rest h = number-exact bytes rest h.0 h.1
token-exact token.Sign bytes rest h = h.1

-- and is a token
pub apart-token : (kind : TokenKind) (bytes rest : List ℕ) → IsApart kind bytes rest → IsToken kind bytes
apart-token token.Bare bytes rest h = h.0
apart-token token.ValueName bytes rest h = h.0
apart-token token.BlockName bytes rest h = h.0
apart-token token.AttrName bytes rest h = h.0
apart-token token.TypeName bytes rest h = h.0
apart-token token.SymbolName bytes rest h = h.0
apart-token token.Text bytes rest h = h
apart-token token.Number bytes rest h = digits-token bytes h.0
apart-token token.Sign bytes rest h = h.0
