-- A word that stands apart is cut, and so is each list of them.
use Rattle.std.proofs.Common.{◌≡◌, inl, ℕ, ◌+◌, ◌-◌, ◌≤◌, suc, true, false, ◌==◌, cond, List, [], ◌∷◌, ◌++◌, length, take, drop, None, Some, refl, sym, ap, ◌∙◌, subst, arith, append_assoc, length-append}
use Rattle.std.specs.List.{list_all, prefix_len}
use Rattle.std.proofs.lemmas.Bool.{false≢true}
use Rattle.std.proofs.lemmas.Bool.Decides.{nat_tests}
use Rattle.mlir_lex.specs.declared.TokenKind.{TokenKind}
use Rattle.mlir_lex.specs.declared.TokenKind.TheVariants as token
use Rattle.mlir_lex.specs.declared.Token.{Token}
use Rattle.mlir_lex.specs.Bytes.{is_blank, is_digit, is_bare_byte, is_sign, starts_bare, is_letter}
use Rattle.mlir_lex.specs.Tokens.{is_run, IsToken, IsNumber, IsLongest}
use Rattle.mlir_lex.specs.Text.{IsGap, no_gap, blank}
use Rattle.mlir_lex.specs.Scan.{length_of, kind_of, kind_at, number_len, sign_len, run, begins}
use Rattle.mlir_lex.proofs.Runs.{run-yes}
use Rattle.mlir_lex.proofs.Lengths.{and-left, and-right, digit-not-bare, number-front}
use Rattle.mlir_lex.proofs.TokenLemmas.{token-kind, token-parts}
use Rattle.mlir_lex.proofs.GapLemmas.{longest-is}
use Rattle.text_grammar.specs.declared.kinds.Kind.{Kind}
use Rattle.text_grammar.specs.declared.kinds.Kind.TheVariants as kinds
use Rattle.text_grammar.specs.declared.cuts.Mode.{Mode}
use Rattle.text_grammar.specs.declared.cuts.Mode.TheVariants.{Plain, Size, By}
use Rattle.text_grammar.specs.TokenKinds.{token_kind}
use Rattle.text_grammar.specs.Words.{mode_behind, part_len, part_kind, cut_len, cut_kind, word_of, HasWord, WordsFrom, AreWords}
use Rattle.printed_words.specs.Words.{PrintedWord, text_of, word_at, words_from, are_blanks, IsApart, Stands, whole, size, unknown, by, AreApart, no_word, one_word, WordsAreCut}
use Rattle.printed_words.proofs.Exact.{token-exact, apart-token}

-- a text begins with a token, of which the mode cuts this word
record Heads (mode : Mode) (kind : Kind) (bytes rest : List ℕ) : Type 0 where
  form : TokenKind
  more : List ℕ
  back : List ℕ
  is : rest ≡ more ++ back
  longest : IsLongest form (bytes ++ more) back
  len : cut_len mode form (bytes ++ more) ≡ length bytes
  kind_is : cut_kind mode form (bytes ++ more) ≡ kind

-- a token as the lexer computes it
found : (form : TokenKind) (bytes rest : List ℕ) → IsToken form bytes → length_of form (bytes ++ rest) ≡ length bytes → IsLongest form bytes rest
found form bytes rest is len = longest-is (bytes ++ rest) form bytes rest (token-kind form bytes rest is) refl (sym len) is

not-part : (mode : Mode) (form : TokenKind) (bytes : List ℕ) → part_len mode form bytes ≡ 0 → cut_len mode form bytes ≡ length bytes
unfolding cut_len
not-part mode form bytes h = rw h refl

not-part-kind : (mode : Mode) (form : TokenKind) (bytes : List ℕ) → part_len mode form bytes ≡ 0 → cut_kind mode form bytes ≡ token_kind form bytes
unfolding cut_kind
not-part-kind mode form bytes h = rw h refl

not-zero : (n : ℕ) → (suc n == 0) ≡ false
not-zero n = grind (arith, nat_tests)

part : (mode : Mode) (form : TokenKind) (bytes : List ℕ) (n : ℕ) → part_len mode form bytes ≡ suc n → cut_len mode form bytes ≡ suc n
unfolding cut_len
part mode form bytes n h = rw (h, not-zero n) refl

part-is : (mode : Mode) (form : TokenKind) (bytes : List ℕ) (n : ℕ) → part_len mode form bytes ≡ suc n → cut_kind mode form bytes ≡ part_kind mode
unfolding cut_kind
part-is mode form bytes n h = rw (h, not-zero n) refl

nil-behind : (bytes : List ℕ) → bytes ++ [] ≡ bytes
nil-behind [] = refl
nil-behind (b ∷ bs) = ap (λ x. b ∷ x) (nil-behind bs)

heads-whole : (mode : Mode) (kind : Kind) (form : TokenKind) (bytes rest : List ℕ) → IsApart form bytes rest → part_len mode form bytes ≡ 0 → token_kind form bytes ≡ kind → Heads mode kind bytes rest
heads-whole mode kind form bytes rest apart none is =
    let e : bytes ++ [] ≡ bytes = nil-behind bytes in
    record {
      form = form;
      more = [];
      back = rest;
      is = refl;
      longest = rw e (found form bytes rest (apart-token form bytes rest apart) (token-exact form bytes rest apart));
      len = rw e (not-part mode form bytes none);
      kind_is = rw e (not-part-kind mode form bytes none ∙ is);
    }

-- a front of a text within another front
record Within (bytes rest front back : List ℕ) : Type 0 where
  more : List ℕ
  is : front ≡ bytes ++ more
  rest_is : rest ≡ more ++ back

within : (bytes rest front back : List ℕ) → bytes ++ rest ≡ front ++ back → length bytes ≤ length front → Within bytes rest front back
within [] rest front back e l = record { more = front; is = refl; rest_is = e }
within (b ∷ bs) rest [] back e l = absurd (omega arith)
within (b ∷ bs) rest (c ∷ front) back e l =
    let heads : b ≡ c = cc in
    let tails : bs ++ rest ≡ front ++ back = cc in
    let more = within bs rest front back tails (omega arith) in
    record { more = more.more; is = ap (λ zs. c ∷ zs) more.is ∙ ap (λ x. x ∷ bs ++ more.more) (sym heads); rest_is = more.rest_is }

-- digits before something else
digits-then : (bytes more back rest : List ℕ) → list_all is_digit bytes ≡ true → 120 ∷ rest ≡ more ++ back → prefix_len is_digit (bytes ++ more) ≡ length bytes
unfolding is_digit
digits-then [] [] back rest h e = refl
digits-then [] (c ∷ more) back rest h e = let x : c ≡ 120 = cc in rw x refl
digits-then (b ∷ bs) more back rest h e =
    let one : is_digit b ≡ true = and-left _ _ h in
    ap (λ t. cond t (1 + prefix_len is_digit (bs ++ more)) 0) one ∙ (let deep = digits-then bs more back rest (and-right (is_digit b) _ h) e in rw deep (omega arith))

digit-kind : (b : ℕ) → is_digit b ≡ true → kind_of b ≡ Some token.Number
unfolding kind_of
digit-kind b h = rw (digit-not-bare b h, h) refl

number-part : (bytes : List ℕ) (n : ℕ) → prefix_len is_digit bytes ≡ n → part_len Size token.Number bytes ≡ n
unfolding part_len
number-part bytes n h = h

sign-part : (b : ℕ) (bytes : List ℕ) → b ≡ 63 → part_len Size token.Sign (b ∷ bytes) ≡ 1
unfolding part_len
sign-part b bytes h = rw h refl

bare-part : (b : ℕ) (bytes : List ℕ) → b ≡ 120 → part_len By token.Bare (b ∷ bytes) ≡ 1
unfolding part_len
bare-part b bytes h = rw h refl

number-len : (text : List ℕ) → length_of token.Number text ≡ number_len text
unfolding length_of
number-len text = refl

digits-are : (bytes rest : List ℕ) → is_run is_digit bytes ≡ true → length bytes ≤ length_of token.Number (bytes ++ rest)
unfolding IsNumber
digits-are bytes rest h = rw number-len (number-front bytes rest (inl h))

-- a token at the head of a text, of which a front is the word
heads-front : (mode : Mode) (kind : Kind) (form : TokenKind) (b : ℕ) (bs rest : List ℕ) → kind_of b ≡ Some form → length (b ∷ bs) ≤ length_of form (b ∷ bs ++ rest)
    → ((more back : List ℕ) → rest ≡ more ++ back → part_len mode form (b ∷ bs ++ more) ≡ suc (length bs)) → part_kind mode ≡ kind → Heads mode kind (b ∷ bs) rest
unfolding kind_at
heads-front mode kind form b bs rest begins longer cuts named =
    let parts = token-parts form b (bs ++ rest) begins (omega arith) in
    let w = within (b ∷ bs) rest parts.front parts.back parts.whole (omega (arith, parts.len)) in
    let front = longest-is (b ∷ bs ++ rest) form parts.front parts.back begins parts.whole parts.len parts.good in
    let P : List ℕ → Type 0 = λ x. IsLongest form x parts.back in
    let cut : part_len mode form (b ∷ bs ++ w.more) ≡ suc (length bs) = cuts w.more parts.back w.rest_is in
    record {
      form = form;
      more = w.more;
      back = parts.back;
      is = w.rest_is;
      longest = subst P w.is front;
      len = part mode form (b ∷ bs ++ w.more) (length bs) cut;
      kind_is = part-is mode form (b ∷ bs ++ w.more) (length bs) cut ∙ named;
    }

heads-size : (bytes rest : List ℕ) → is_run is_digit bytes ≡ true → Heads Size kinds.Dimension bytes (120 ∷ rest)
unfolding is_run
heads-size [] rest h = absurd (false≢true h)
heads-size (b ∷ bs) rest h =
    heads-front Size kinds.Dimension token.Number b bs (120 ∷ rest) (digit-kind b (and-left _ _ h)) (digits-are (b ∷ bs) (120 ∷ rest) h)
    (λ more back e. number-part (b ∷ bs ++ more) (suc (length bs)) (digits-then (b ∷ bs) more back rest h e)) refl

sign-kind : kind_of 63 ≡ Some token.Sign
unfolding kind_of starts_bare is_letter is_digit is_sign
sign-kind = refl

sign-long : (rest : List ℕ) → 1 ≤ length_of token.Sign (63 ∷ rest)
unfolding length_of sign_len begins
sign-long rest = omega arith

heads-unknown : (rest : List ℕ) → Heads Size kinds.Dimension (63 ∷ []) (120 ∷ rest)
heads-unknown rest = heads-front Size kinds.Dimension token.Sign 63 [] (120 ∷ rest) sign-kind (sign-long (120 ∷ rest)) (λ more back e. sign-part 63 more refl) refl

bare-kind : kind_of 120 ≡ Some token.Bare
unfolding kind_of starts_bare is_letter
bare-kind = refl

bare-long : (rest : List ℕ) → 1 ≤ length_of token.Bare (120 ∷ rest)
unfolding length_of is_bare_byte is_letter
bare-long rest = let e : run is_bare_byte (120 ∷ rest) ≡ suc (run is_bare_byte rest) = run-yes is_bare_byte 120 rest refl in omega arith

heads-by : (rest : List ℕ) → Heads By kinds.DimensionX (120 ∷ []) rest
heads-by rest = heads-front By kinds.DimensionX token.Bare 120 [] rest bare-kind (bare-long rest) (λ more back e. bare-part 120 more refl) refl

heads : (mode : Mode) (kind : Kind) (bytes rest : List ℕ) → Stands mode kind bytes rest → Heads mode kind bytes rest
heads mode kind bytes rest (whole _ _ form _ _ apart none is) = heads-whole mode kind form bytes rest apart none is
heads mode kind bytes rest (size _ more h) = heads-size bytes more h
heads mode kind bytes rest (unknown more) = heads-unknown more
heads mode kind bytes rest (by _) = heads-by rest

-- white space
blank-gap : (gap rest : List ℕ) → are_blanks gap ≡ true → IsGap gap rest
blank-gap [] rest h = no_gap rest
blank-gap (b ∷ gap) rest h = blank b gap rest (and-left _ _ h) (blank-gap gap rest (and-right (is_blank b) _ h))

take-front : (xs ys : List ℕ) → take (length xs) (xs ++ ys) ≡ xs
take-front [] ys = refl
take-front (x ∷ xs) ys = ap (λ zs. x ∷ zs) (take-front xs ys)

drop-front : (xs ys : List ℕ) → drop (length xs) (xs ++ ys) ≡ ys
drop-front [] ys = refl
drop-front (x ∷ xs) ys = drop-front xs ys

piece-is : (gap piece back : List ℕ) → take (length gap + length piece - length gap) (drop (length gap) (gap ++ (piece ++ back))) ≡ piece
piece-is gap piece back =
    let n : length gap + length piece - length gap ≡ length piece = omega arith in
    rw (n, drop-front gap (piece ++ back)) (take-front piece back)

-- the word that a token's bytes make
same-word : (mode : Mode) (start : ℕ) (w : PrintedWord) (form : TokenKind) (more piece : List ℕ) → piece ≡ w.bytes ++ more → cut_len mode form (w.bytes ++ more) ≡ length w.bytes → cut_kind mode form (w.bytes ++ more) ≡ w.kind
    → word_at start w ≡ word_of mode form piece start
unfolding word_of
same-word mode start w form more piece is len kind_is =
    rw (is, len, kind_is, take-front w.bytes more) refl

-- the word at the head of a text
cut-here : (mode : Mode) (at : ℕ) (w : PrintedWord) (rest : List ℕ) → are_blanks w.gap ≡ true → Heads mode w.kind w.bytes rest → HasWord mode at (w.gap ++ (w.bytes ++ rest)) (word_at (at + length w.gap) w)
unfolding word_of
cut-here mode at w rest blanks h =
    let t : Token = record { kind = h.form; start = length w.gap; end = length w.gap + length (w.bytes ++ h.more) } in
    let moved : w.bytes ++ rest ≡ (w.bytes ++ h.more) ++ h.back = ap (λ r. w.bytes ++ r) h.is ∙ sym (append_assoc w.bytes h.more h.back) in
    let whole : w.gap ++ (w.bytes ++ rest) ≡ w.gap ++ ((w.bytes ++ h.more) ++ h.back) = ap (λ r. w.gap ++ r) moved in
    let piece : take (t.end - t.start) (drop t.start (w.gap ++ (w.bytes ++ rest))) ≡ w.bytes ++ h.more = rw whole (piece-is w.gap (w.bytes ++ h.more) h.back) in
    record {
      token = t;
      behind = h.back;
      begins = record { gap = w.gap; piece = w.bytes ++ h.more; whole = whole; is_gap = blank-gap w.gap _ blanks; longest = h.longest; start = omega arith; end = refl };
      is = same-word mode (at + length w.gap) w h.form h.more (take (t.end - t.start) (drop t.start (w.gap ++ (w.bytes ++ rest)))) piece h.len h.kind_is;
    }

drop-word : (gap bytes rest : List ℕ) (at : ℕ) → drop (at + length gap + length bytes - at) (gap ++ (bytes ++ rest)) ≡ rest
drop-word gap bytes rest at =
    let n : at + length gap + length bytes - at ≡ length (gap ++ bytes) = omega (arith, length-append gap bytes) in
    rw (n, ← append_assoc) (drop-front (gap ++ bytes) rest)

cut-all : (mode : Mode) (at : ℕ) (ws : List PrintedWord) (end : List ℕ) → AreApart mode ws end → WordsFrom mode at (text_of ws end) (words_from at ws) None
unfolding WordsFrom
cut-all mode at ws end (no_word _ _ h) = blank-gap end [] h
cut-all mode at ws end (one_word _ w more _ blanks stands apart) =
    let rest = text_of more end in
    let after : drop (at + length w.gap + length w.bytes - at) (w.gap ++ (w.bytes ++ rest)) ≡ rest = drop-word w.gap w.bytes rest at in
    (cut-here mode at w rest blanks (heads mode w.kind w.bytes rest stands), rw after (cut-all (mode_behind mode w.kind) (at + length w.gap + length w.bytes) more end apart))

pub words_are_cut : WordsAreCut
unfolding AreWords
words_are_cut ws end h = cut-all Plain 0 ws end h
