-- The words of a text of bytes spell bytes.
use Rattle.std.proofs.Common.{◌≡◌, ℕ, zero, suc, ◌+◌, ◌-◌, ◌*◌, ◌%◌, ◌<◌, ◌==◌, Bool, true, false, List, [], ◌∷◌, length, take, drop, Option, Some, None, refl, arith}
use Rattle.std.specs.Prelude.{nat_lt, slice_get, if◌then◌else◌}
use Rattle.std.proofs.lemmas.Bool.Decides.{nat_tests}
use Rattle.mlir_lex.specs.Bytes.{is_short_escape}
use Rattle.mlir_lex.proofs.Lengths.{and-both, and-left, and-right}
use Rattle.text_grammar.specs.declared.kinds.Kind.{Kind}
use Rattle.text_grammar.specs.declared.kinds.Kind.TheVariants.{Text, SymbolName}
use Rattle.text_grammar.specs.declared.words.Word.{Word}
use Rattle.text_grammar.specs.TokenKinds.{digit_value}
use Rattle.text_events.specs.Spelling.{behind_digit, behind_sign, between, core, is_quoted, piece, short_escape, spelled, unescaped}
use Rattle.text_events.specs.Source.{spelled_or}
use Rattle.printed_attrs.specs.Readable.{are_bytes}
use Rattle.spelled_reading.specs.Bytes.{WordsAreInBytes}

abbrev is_byte : ℕ → Bool
is_byte b = nat_lt b 256

taken : (n : ℕ) (bs : List ℕ) → are_bytes bs ≡ true → are_bytes (take n bs) ≡ true
taken zero bs h = refl
taken (suc n) [] h = refl
taken (suc n) (b ∷ bs) h = and-both _ _ (and-left _ _ h) (taken n bs (and-right (is_byte b) _ h))

dropped : (n : ℕ) (bs : List ℕ) → are_bytes bs ≡ true → are_bytes (drop n bs) ≡ true
dropped zero bs h = h
dropped (suc n) [] h = refl
dropped (suc n) (b ∷ bs) h = dropped n bs (and-right (is_byte b) _ h)

piece_bytes : (text : List ℕ) (start end : ℕ) → are_bytes text ≡ true → are_bytes (between text start end) ≡ true
piece_bytes text start end h = taken (end - start) (drop start text) (dropped start text h)

either : (b : Bool) (xs ys : List ℕ) → are_bytes xs ≡ true → are_bytes ys ≡ true → are_bytes (if b then xs else ys) ≡ true
either true xs ys h k = h
either false xs ys h k = k

core_bytes : (kind : Kind) (bs : List ℕ) → are_bytes bs ≡ true → are_bytes (core kind bs) ≡ true
unfolding core
core_bytes Text bs h = piece_bytes bs 1 (length bs - 1) h
core_bytes SymbolName bs h = either (is_quoted (drop 1 bs)) _ _ (piece_bytes (drop 1 bs) 1 (length (drop 1 bs) - 1) (dropped 1 bs h)) (dropped 1 bs h)
core_bytes _ bs h = h

small : (n : ℕ) → nat_lt (n % 256) 256 ≡ true
small n = let h : n % 256 < 256 = omega arith in grind (arith, nat_tests)

escape_byte : (b : ℕ) → is_byte b ≡ true → is_byte (short_escape b) ≡ true
escape_byte b h = by_tests (b == 110) (b == 116)
  where
    by_tests : (s t : Bool) → is_byte (if s then 10 else if t then 9 else b) ≡ true
    by_tests true t = refl
    by_tests false true = refl
    by_tests false false = h

mutual
  unescaped_bytes : (bs : List ℕ) → are_bytes bs ≡ true → are_bytes (unescaped bs) ≡ true
  unescaped_bytes [] h = refl
  unescaped_bytes (b ∷ bs) h = either (b == 92) _ _ (sign_bytes bs (and-right (is_byte b) _ h)) (and-both _ _ (and-left _ _ h) (unescaped_bytes bs (and-right (is_byte b) _ h)))

  sign_bytes : (bs : List ℕ) → are_bytes bs ≡ true → are_bytes (behind_sign bs) ≡ true
  sign_bytes [] h = refl
  sign_bytes (b ∷ bs) h =
      either (is_short_escape b) _ _ (and-both _ _ (escape_byte b (and-left _ _ h)) (unescaped_bytes bs (and-right (is_byte b) _ h))) (digit_bytes bs (digit_value b) (and-right (is_byte b) _ h))

  digit_bytes : (bs : List ℕ) (value : ℕ) → are_bytes bs ≡ true → are_bytes (behind_digit value bs) ≡ true
  digit_bytes [] value h = refl
  digit_bytes (b ∷ bs) value h = and-both _ _ (small (value * 16 + digit_value b)) (unescaped_bytes bs (and-right (is_byte b) _ h))

word_bytes : (text : List ℕ) (w : Word) → are_bytes text ≡ true → are_bytes (spelled text w) ≡ true
unfolding spelled
word_bytes text w h = unescaped_bytes (core w.kind (piece text w)) (core_bytes w.kind (piece text w) (piece_bytes text w.start w.end h))

or_nothing : (text : List ℕ) (o : Option Word) → are_bytes text ≡ true → are_bytes (spelled_or text o) ≡ true
or_nothing text None h = refl
or_nothing text (Some w) h = word_bytes text w h

pub words_are_in_bytes : WordsAreInBytes
words_are_in_bytes text words name h = or_nothing text (slice_get words name) h
