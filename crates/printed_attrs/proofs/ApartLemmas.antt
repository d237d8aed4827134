-- The words of an attribute stand apart.
use Rattle.std.proofs.Common.{◌≡◌, ℕ, suc, ◌+◌, ◌*◌, ◌<◌, ◌≤◌, ◌^◌, ◌==◌, ◌&&◌, ◌||◌, Bool, true, false, List, [], ◌∷◌, ◌++◌, refl, sym, subst, arith}
use Rattle.std.specs.Prelude.{codes, decimal, ℤ, pos, negsuc, if◌then◌else◌}
use Rattle.std.specs.List.{list_all}
use Rattle.std.specs.Ordering.{int_eq}
use Rattle.std.proofs.Math.Pow.{pow_mono}
use Rattle.std.proofs.lemmas.Bool.{false≢true}
use Rattle.std.proofs.lemmas.Bool.Decides.{nat_tests}
use Rattle.mlir_lex.specs.Bytes.{is_bare, is_digit, is_bare_byte, starts_bare, is_letter}
use Rattle.mlir_lex.specs.Tokens.{is_run}
use Rattle.mlir_lex.specs.Scan.{begins}
use Rattle.mlir_lex.proofs.Lengths.{and-left, and-right}
use Rattle.plain_tree.specs.Types.{PlainType, Int, Index}
use Rattle.plain_tree.specs.Attrs.{PlainAttr, PlainAttrs, PlainDict, Unit, Number, Text, Attrs, Dict, OfType, Symbol, Numbers, Dialect, end_of_attrs, more_attrs, end_of_entries, more_entries}
use Rattle.rule_model.specs.Formed.{is_formed_type, is_number_of, is_signed}
use Rattle.tree_text.specs.NameText.{string_text, name_text}
use Rattle.tree_text.specs.AttrText.{bit_text}
use Rattle.text_grammar.specs.declared.kinds.Kind.TheVariants as kinds
use Rattle.text_grammar.specs.declared.places.Place.{Place}
use Rattle.text_grammar.specs.declared.places.Place.TheVariants as places
use Rattle.text_grammar.specs.declared.cuts.Mode.{Mode}
use Rattle.text_grammar.specs.declared.cuts.Mode.TheVariants.{Plain}
use Rattle.text_grammar.specs.TokenKinds.{bare_kind}
use Rattle.printed_words.specs.Words.{PrintedWord, sign, text_of, are_blanks, is_free, Stands, AreApart, AreAlwaysApart}
use Rattle.printed_words.proofs.WordLemmas.{apart, free-blank, free-comma, free-colon, free-greater, free-less, free-squared, free-braced, open-square, close-square, open-brace, close-brace, less, greater, comma, colon, equals, minus, bare, hash-name, symbol-name, text, number, decimal-digits, one_blank}
use Rattle.printed_types.specs.TypeWords.{type_words, int_kind, is_byte_width}
use Rattle.printed_types.proofs.TextLemmas.{type_text}
use Rattle.printed_types.proofs.KindLemmas.{int_kind_is, int_bare, name_array}
use Rattle.printed_types.proofs.ApartLemmas.{number_apart, type_apart, int_mode, upper}
use Rattle.printed_attrs.specs.AttrWords.{attr_words, items_words, more_items, dict_words, more_dict, signed_words, numbers_words, more_numbers, dialect_words, more_dialect, name_kind, valued, is_unit, is_bit}
use Rattle.printed_attrs.specs.Readable.{is_readable, are_readable, is_readable_dict, are_bytes, is_dialect_name}
use Rattle.printed_attrs.proofs.StringLemmas.{string_is, symbol_is, dialect_is, dialect_kind}
use Rattle.printed_attrs.proofs.ReadLemmas.{number_type, or_other}

-- Numbers

abbrev magnitude : ℤ → ℕ
magnitude (pos n) = n
magnitude (negsuc n) = suc n

small_pow : (w : ℕ) → w ≤ 64 → 2 ^ w ≤ 18446744073709551616
small_pow w h = let e : 2 ^ w ≤ 2 ^ 64 = pow_mono h in e

small_signed : (w : ℕ) (v : ℤ) → w ≤ 64 → is_signed w v ≡ true → magnitude v < 10 ^ 64
small_signed w (pos n) few h =
    let p : 2 ^ w ≤ 18446744073709551616 = small_pow w few in
    let q : 2 * n < 2 ^ w = grind (arith, nat_tests) in
    omega arith
small_signed w (negsuc n) few h =
    let p : 2 ^ w ≤ 18446744073709551616 = small_pow w few in
    let q : 2 * (n + 1) ≤ 2 ^ w = grind (arith, nat_tests) in
    omega arith

small_number : (t : PlainType) (v : ℤ) → is_formed_type t ≡ true → is_number_of t v ≡ true → magnitude v < 10 ^ 64
small_number (Int w) v f h = small_signed w v (upper w f) h
small_number Index v f h = small_signed 64 v (omega arith) h
small_number _ v f h = absurd (false≢true h)

pub byte_width : (w : ℕ) → is_byte_width w ≡ true → w ≤ 64
byte_width w h = grind (arith, nat_tests)

pub byte_some : (w : ℕ) → is_byte_width w ≡ true → 0 < w
byte_some w h = grind (arith, nat_tests)

-- digits don't begin with a `>`
digit-other : (b : ℕ) → is_digit b ≡ true → (b == 62) ≡ false
unfolding is_digit
digit-other b h = grind (arith, nat_tests)

digits-begin : (ds rest : List ℕ) → is_run is_digit ds ≡ true → begins 62 (ds ++ rest) ≡ false
unfolding begins is_run
digits-begin [] rest h = absurd (false≢true h)
digits-begin (b ∷ ds) rest h = digit-other b (and-left _ _ h)

signed_apart : (gap : List ℕ) (at_minus at_number : Place) (v : ℤ) (rest : List PrintedWord) (end : List ℕ) → magnitude v < 10 ^ 64 → are_blanks gap ≡ true → is_free (text_of rest end) ≡ true → AreApart Plain rest end
    → AreApart Plain (signed_words gap at_minus at_number v rest) end
signed_apart gap at_minus at_number (pos n) rest end few blanks free h = apart gap at_number kinds.Number (decimal n) blanks (number (decimal n) _ (decimal-digits n few) free) h
signed_apart gap at_minus at_number (negsuc n) rest end few blanks free h =
    apart gap at_minus kinds.Minus (codes "-") blanks (minus Plain _ (digits-begin (decimal (suc n)) _ (decimal-digits (suc n) few)))
    (apart [] at_number kinds.Number (decimal (suc n)) refl (number (decimal (suc n)) _ (decimal-digits (suc n) few) free) h)

-- no `:` behind a blank
no-colon : (rest : List ℕ) → begins 58 (32 ∷ rest) ≡ false
unfolding begins
no-colon rest = refl

signed_colon : (at_minus at_number : Place) (v : ℤ) (rest : List PrintedWord) (end : List ℕ) → begins 58 (text_of (signed_words (codes " ") at_minus at_number v rest) end) ≡ false
signed_colon at_minus at_number (pos n) rest end = no-colon _
signed_colon at_minus at_number (negsuc n) rest end = no-colon _

type_colon : (t : PlainType) (rest : List PrintedWord) (end : List ℕ) → begins 58 (text_of (type_words false places.ElementWord (codes " ") t rest) end) ≡ false
type_colon t rest end = rw (type_text false places.ElementWord (codes " ") t rest end) (no-colon _)

-- `true` and `false`
bool_word : (b : Bool) (rest : List ℕ) → is_free rest ≡ true → Stands Plain kinds.WordBool (if b then codes "false" else codes "true") rest
unfolding bare_kind starts_bare is_bare_byte is_letter is_digit
bool_word true rest free = bare Plain kinds.WordBool (codes "false") rest refl refl refl free
bool_word false rest free = bare Plain kinds.WordBool (codes "true") rest refl refl refl free

if_apart : (b : Bool) (xs ys : List PrintedWord) (end : List ℕ) → AreApart Plain xs end → AreApart Plain ys end → AreApart Plain (if b then xs else ys) end
if_apart true xs ys end f g = f
if_apart false xs ys end f g = g

-- lists of numbers
more_numbers_free : (vs : List ℤ) (rest : List PrintedWord) (end : List ℕ) → is_free (text_of rest end) ≡ true → is_free (text_of (more_numbers vs rest) end) ≡ true
more_numbers_free [] rest end h = h
more_numbers_free (v ∷ vs) rest end h = free-comma _

more_numbers_apart : (w : ℕ) (vs : List ℤ) (rest : List PrintedWord) (end : List ℕ) → w ≤ 64 → list_all (is_signed w) vs ≡ true → is_free (text_of rest end) ≡ true → AreApart Plain rest end → AreApart Plain (more_numbers vs rest) end
more_numbers_apart w [] rest end few r free h = h
more_numbers_apart w (v ∷ vs) rest end few r free h =
    apart [] places.NumbersComma kinds.Comma (codes ",") refl (comma Plain _)
    (signed_apart (codes " ") places.ListedMinus places.ListedNumber v _ end (small_signed w v few (and-left _ _ r)) one_blank (more_numbers_free vs rest end free) (more_numbers_apart w vs rest end few (and-right (is_signed w v) _ r) free h))

numbers_apart : (w : ℕ) (vs : List ℤ) (rest : List PrintedWord) (end : List ℕ) → w ≤ 64 → list_all (is_signed w) vs ≡ true → is_free (text_of rest end) ≡ true → AreApart Plain rest end → AreApart Plain (numbers_words vs rest) end
numbers_apart w [] rest end few r free h = h
numbers_apart w (v ∷ vs) rest end few r free h =
    apart [] places.NumbersColon kinds.Colon (codes ":") refl (colon Plain _ (signed_colon places.ListedMinus places.ListedNumber v _ end))
    (signed_apart (codes " ") places.ListedMinus places.ListedNumber v _ end (small_signed w v few (and-left _ _ r)) one_blank (more_numbers_free vs rest end free) (more_numbers_apart w vs rest end few (and-right (is_signed w v) _ r) free h))

numbers_free : (vs : List ℤ) (rest : List PrintedWord) (end : List ℕ) → is_free (text_of rest end) ≡ true → is_free (text_of (numbers_words vs rest) end) ≡ true
numbers_free [] rest end h = h
numbers_free (v ∷ vs) rest end h = free-colon _

-- words of a dialect attribute: behind one that is `memref` another mode stands, which no comma minds
more_dialect_free : (names : List (List ℕ)) (rest : List PrintedWord) (end : List ℕ) → is_free (text_of (more_dialect names (sign places.DialectGreater kinds.Greater (codes ">") ∷ rest)) end) ≡ true
more_dialect_free [] rest end = free-greater _
more_dialect_free (n ∷ names) rest end = free-comma _

more_dialect_apart : (names : List (List ℕ)) (rest : List PrintedWord) (end : List ℕ) → list_all is_bare names ≡ true → AreApart Plain rest end → (mode : Mode)
    → AreApart mode (more_dialect names (sign places.DialectGreater kinds.Greater (codes ">") ∷ rest)) end
more_dialect_apart [] rest end r h mode = apart [] places.DialectGreater kinds.Greater (codes ">") refl (greater mode _) h
more_dialect_apart (n ∷ names) rest end r h mode =
    apart [] places.DialectComma kinds.Comma (codes ",") refl (comma mode _)
    (apart (codes " ") places.DialectWord (bare_kind n) n one_blank (bare Plain (bare_kind n) n _ refl (and-left _ _ r) refl (more_dialect_free names rest end)) (more_dialect_apart names rest end (and-right (is_bare n) _ r) h _))

dialect_apart : (names : List (List ℕ)) (rest : List PrintedWord) (end : List ℕ) → list_all is_bare names ≡ true → AreApart Plain rest end → AreApart Plain (dialect_words names rest) end
dialect_apart [] rest end r h = h
dialect_apart (n ∷ names) rest end r h =
    apart [] places.DialectLess kinds.Less (codes "<") refl (less Plain _)
    (apart [] places.DialectWord (bare_kind n) n refl (bare Plain (bare_kind n) n _ refl (and-left _ _ r) refl (more_dialect_free names rest end)) (more_dialect_apart names rest end (and-right (is_bare n) _ r) h _))

dialect_free : (names : List (List ℕ)) (rest : List PrintedWord) (end : List ℕ) → is_free (text_of rest end) ≡ true → is_free (text_of (dialect_words names rest) end) ≡ true
dialect_free [] rest end h = h
dialect_free (n ∷ names) rest end h = free-less _

-- the name of an entry
name_stands : (name rest : List ℕ) → are_bytes name ≡ true → is_free rest ≡ true → Stands Plain (name_kind name) (name_text name) rest
name_stands name rest r free = by_test (is_bare name) refl
  where
    by_test : (t : Bool) → is_bare name ≡ t → Stands Plain (if t then bare_kind name else kinds.Text) (if t then name else string_text name) rest
    by_test true e = bare Plain (bare_kind name) name rest refl e refl free
    by_test false e = text (string_text name) rest (string_is name r)

valued_apart : (unit : Bool) (rest value : List PrintedWord) (end : List ℕ) → AreAlwaysApart rest end → (unit ≡ false → AreApart Plain value end) → AreAlwaysApart (valued unit rest value) end
valued_apart true rest value end h k mode = h mode
valued_apart false rest value end h k mode = apart (codes " ") places.EntryEquals kinds.Equals (codes "=") one_blank (equals mode _) (k refl)

valued_free : (unit : Bool) (rest value : List PrintedWord) (end : List ℕ) → is_free (text_of rest end) ≡ true → is_free (text_of (valued unit rest value) end) ≡ true
valued_free true rest value end h = h
valued_free false rest value end h = free-blank _

more_dict_free : (d : PlainDict) (rest : List PrintedWord) (end : List ℕ) → is_free (text_of rest end) ≡ true → is_free (text_of (more_dict d rest) end) ≡ true
more_dict_free end_of_entries rest end h = h
more_dict_free (more_entries name a d) rest end h = free-comma _

more_items_free : (items : PlainAttrs) (rest : List PrintedWord) (end : List ℕ) → is_free (text_of rest end) ≡ true → is_free (text_of (more_items items rest) end) ≡ true
more_items_free end_of_attrs rest end h = h
more_items_free (more_attrs a items) rest end h = free-comma _

mutual
  pub attr_apart : (gap : List ℕ) (a : PlainAttr) (rest : List PrintedWord) (end : List ℕ) → is_readable a ≡ true → are_blanks gap ≡ true → is_free (text_of rest end) ≡ true → AreApart Plain rest end → AreApart Plain (attr_words gap a rest) end
  attr_apart gap Unit rest end r blanks free h = absurd (false≢true r)
  attr_apart gap (Number v t) rest end r blanks free h =
      let formed : is_formed_type t ≡ true = and-left _ _ r in
      let of_type : is_number_of t v ≡ true = and-right (is_formed_type t) _ r in
      if_apart (is_bit t) _ _ end (apart gap places.BoolWord kinds.WordBool (bit_text v) blanks (bool_word (int_eq v (pos 0)) _ free) h)
      (signed_apart gap places.IntegerMinus places.IntegerNumber v _ end (small_number t v formed of_type) blanks (free-blank _)
      (apart (codes " ") places.NumberColon kinds.Colon (codes ":") one_blank (colon Plain _ (type_colon t rest end))
      (number_apart false places.ElementWord (codes " ") t Plain rest end (number_type t v of_type) formed refl one_blank free h)))
  attr_apart gap (Text bytes) rest end r blanks free h = apart gap places.TextAttr kinds.Text (string_text bytes) blanks (text (string_text bytes) _ (string_is bytes r)) h
  attr_apart gap (Attrs attrs) rest end r blanks free h =
      apart gap places.ItemsOpen kinds.OpenSquare (codes "[") blanks (open-square Plain _) (items_apart attrs _ end r (free-squared _) (apart [] places.ItemsClose kinds.CloseSquare (codes "]") refl (close-square Plain _) h))
  attr_apart gap (Dict entries) rest end r blanks free h =
      apart gap places.AttrDictOpen kinds.OpenBrace (codes "{") blanks (open-brace Plain _)
      (dict_apart entries _ end r (free-braced _) (λ mode. apart [] places.AttrDictClose kinds.CloseBrace (codes "}") refl (close-brace mode _) h))
  attr_apart gap (OfType t) rest end r blanks free h = type_apart false gap t rest end r blanks free h
  attr_apart gap (Symbol name) rest end r blanks free h = apart gap places.Symbol kinds.SymbolName (codes "@" ++ name_text name) blanks (symbol-name (codes "@" ++ name_text name) _ (symbol_is name r) free) h
  attr_apart gap (Numbers width values) rest end r blanks free h =
      let bytes : is_byte_width width ≡ true = and-left _ _ r in
      let few : width ≤ 64 = byte_width width bytes in
      let close : AreApart Plain (sign places.NumbersGreater kinds.Greater (codes ">") ∷ rest) end = apart [] places.NumbersGreater kinds.Greater (codes ">") refl (greater Plain _) h in
      let numbers = numbers_apart width values _ end few (and-right (is_byte_width width) _ r) (free-greater _) close in
      apart gap places.NumbersWord kinds.WordArray (codes "array") blanks (bare Plain kinds.WordArray (codes "array") _ refl name_array.bare name_array.inner_is (free-less _))
      (apart [] places.NumbersLess kinds.Less (codes "<") refl (less Plain _)
      (apart [] places.NumbersWidth (int_kind width) (codes "i" ++ decimal width) refl
      (bare Plain (int_kind width) (codes "i" ++ decimal width) _ refl (int_bare width few) (int_kind_is width (byte_some width bytes) few) (numbers_free values _ end (free-greater _)))
      (subst (λ (m : Mode). AreApart m (numbers_words values (sign places.NumbersGreater kinds.Greater (codes ">") ∷ rest)) end) (sym (int_mode Plain width)) numbers)))
  attr_apart gap (Dialect name words) rest end r blanks free h =
      let named : is_dialect_name name ≡ true = and-left _ _ r in
      apart gap places.DialectName kinds.HashDotted (codes "#" ++ name) blanks (hash-name kinds.HashDotted (codes "#" ++ name) _ (dialect_is name named) (dialect_kind name named) (dialect_free words rest end free))
      (dialect_apart words rest end (and-right (is_dialect_name name) _ r) h)

  pub items_apart : (items : PlainAttrs) (rest : List PrintedWord) (end : List ℕ) → are_readable items ≡ true → is_free (text_of rest end) ≡ true → AreApart Plain rest end → AreApart Plain (items_words items rest) end
  items_apart end_of_attrs rest end r free h = h
  items_apart (more_attrs a items) rest end r free h = attr_apart [] a _ end (and-left _ _ r) refl (more_items_free items rest end free) (more_items_apart items rest end (and-right (is_readable a) _ r) free h)

  pub more_items_apart : (items : PlainAttrs) (rest : List PrintedWord) (end : List ℕ) → are_readable items ≡ true → is_free (text_of rest end) ≡ true → AreApart Plain rest end → AreApart Plain (more_items items rest) end
  more_items_apart end_of_attrs rest end r free h = h
  more_items_apart (more_attrs a items) rest end r free h =
      apart [] places.ItemComma kinds.Comma (codes ",") refl (comma Plain _)
      (attr_apart (codes " ") a _ end (and-left _ _ r) one_blank (more_items_free items rest end free) (more_items_apart items rest end (and-right (is_readable a) _ r) free h))

  pub dict_apart : (d : PlainDict) (rest : List PrintedWord) (end : List ℕ) → is_readable_dict d ≡ true → is_free (text_of rest end) ≡ true → AreAlwaysApart rest end → AreApart Plain (dict_words d rest) end
  dict_apart end_of_entries rest end r free h = h Plain
  dict_apart (more_entries name a d) rest end r free h =
      let both : ((is_unit a || is_readable a) && is_readable_dict d) ≡ true = and-right (are_bytes name) _ r in
      let own : is_readable_dict d ≡ true = and-right (is_unit a || is_readable a) _ both in
      let after = more_dict_apart d rest end own free h in
      apart [] places.EntryName (name_kind name) (name_text name) refl (name_stands name _ (and-left _ _ r) (valued_free (is_unit a) _ _ end (more_dict_free d rest end free)))
      (valued_apart (is_unit a) _ _ end after (λ no. attr_apart (codes " ") a _ end (or_other (is_unit a) _ (and-left (is_unit a || is_readable a) _ both) no) one_blank (more_dict_free d rest end free) (after Plain)) _)

  pub more_dict_apart : (d : PlainDict) (rest : List PrintedWord) (end : List ℕ) → is_readable_dict d ≡ true → is_free (text_of rest end) ≡ true → AreAlwaysApart rest end → AreAlwaysApart (more_dict d rest) end
  more_dict_apart end_of_entries rest end r free h mode = h mode
  more_dict_apart (more_entries name a d) rest end r free h mode =
      let both : ((is_unit a || is_readable a) && is_readable_dict d) ≡ true = and-right (are_bytes name) _ r in
      let own : is_readable_dict d ≡ true = and-right (is_unit a || is_readable a) _ both in
      let after = more_dict_apart d rest end own free h in
      apart [] places.EntryComma kinds.Comma (codes ",") refl (comma mode _)
      (apart (codes " ") places.EntryName (name_kind name) (name_text name) one_blank (name_stands name _ (and-left _ _ r) (valued_free (is_unit a) _ _ end (more_dict_free d rest end free)))
      (valued_apart (is_unit a) _ _ end after (λ no. attr_apart (codes " ") a _ end (or_other (is_unit a) _ (and-left (is_unit a || is_readable a) _ both) no) one_blank (more_dict_free d rest end free) (after Plain)) _))
