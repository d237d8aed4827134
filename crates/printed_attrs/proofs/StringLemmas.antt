-- Strings and names as tokens.
use Rattle.std.proofs.Common.{◌≡◌, inl, inr, ℕ, ◌+◌, ◌/◌, ◌%◌, ◌<◌, Bool, true, false, ◌==◌, List, [], ◌∷◌, ◌++◌, refl, arith}
use Rattle.std.specs.Prelude.{nat_lt, flat_map, codes, if◌then◌else◌}
use Rattle.std.specs.List.{list_all}
use Rattle.std.proofs.lemmas.Bool.{false≢true}
use Rattle.std.proofs.lemmas.Bool.Decides.{nat_tests}
use Rattle.mlir_lex.specs.Bytes.{is_bare, is_word, is_digit, is_letter, is_hex_digit, is_plain, is_on_line, is_short_escape, starts_suffix, is_suffix_byte}
use Rattle.mlir_lex.specs.Tokens.{IsEscape, short, hexadecimal, IsInside, nothing, plain, escape, IsString, IsSymbol, IsSuffix, IsName}
use Rattle.mlir_lex.proofs.Lengths.{and-left, and-right}
use Rattle.tree_text.specs.NameText.{hex_digit, stands_plain, byte_text, string_text, name_text}
use Rattle.text_grammar.specs.declared.kinds.Kind.TheVariants as kinds
use Rattle.text_grammar.specs.TokenKinds.{hash_kind, has_dot}
use Rattle.printed_words.proofs.NameLemmas.{bare-suffix}
use Rattle.printed_attrs.specs.Readable.{are_bytes, is_dialect_name}

hex_is : (n : ℕ) → n < 16 → is_hex_digit (hex_digit n) ≡ true
unfolding is_hex_digit is_digit
hex_is n h = by_test (nat_lt n 10) refl
  where
    by_test : (t : Bool) → nat_lt n 10 ≡ t → is_hex_digit (if t then 48 + n else 55 + n) ≡ true
    by_test true e = grind (arith, nat_tests)
    by_test false e = grind (arith, nat_tests)

plain_is : (b : ℕ) → stands_plain b ≡ true → (b == 92) ≡ false → is_plain b ≡ true
unfolding is_plain is_on_line
plain_is b h k = grind (arith, nat_tests)

backslash : IsEscape (92 ∷ 92 ∷ [])
unfolding is_short_escape
backslash = short 92 refl

-- a byte within a string
inside_byte : (b : ℕ) (rest : List ℕ) → nat_lt b 256 ≡ true → IsInside rest → IsInside (byte_text b ++ rest)
inside_byte b rest small h = by_tests (b == 92) refl (stands_plain b) refl
  where
    by_tests : (s : Bool) → (b == 92) ≡ s → (t : Bool) → stands_plain b ≡ t → IsInside ((if s then 92 ∷ 92 ∷ [] else (if t then b ∷ [] else 92 ∷ hex_digit (b / 16) ∷ hex_digit (b % 16) ∷ [])) ++ rest)
    by_tests true e t f = escape (92 ∷ 92 ∷ []) rest backslash h
    by_tests false e true f = plain b rest (plain_is b f e) h
    by_tests false e false f =
        let few : b < 256 = grind (arith, nat_tests) in
        escape (92 ∷ hex_digit (b / 16) ∷ hex_digit (b % 16) ∷ []) rest (hexadecimal (hex_digit (b / 16)) (hex_digit (b % 16)) (hex_is (b / 16) (omega arith)) (hex_is (b % 16) (omega arith))) h

inside_is : (bytes : List ℕ) → are_bytes bytes ≡ true → IsInside (flat_map byte_text bytes)
inside_is [] h = nothing
inside_is (b ∷ bytes) h = inside_byte b (flat_map byte_text bytes) (and-left _ _ h) (inside_is bytes (and-right (nat_lt b 256) _ h))

pub string_is : (bytes : List ℕ) → are_bytes bytes ≡ true → IsString (string_text bytes)
unfolding IsString
string_is bytes h = (flat_map byte_text bytes, refl, inside_is bytes h)

pub symbol_is : (name : List ℕ) → are_bytes name ≡ true → IsSymbol (codes "@" ++ name_text name)
unfolding IsSymbol IsSuffix
symbol_is name h = by_test (is_bare name) refl
  where
    by_test : (t : Bool) → is_bare name ≡ t → IsSymbol (codes "@" ++ (if t then name else string_text name))
    by_test true e = (name, refl, inl (inr (bare-suffix name e)))
    by_test false e = (string_text name, refl, inr (string_is name h))

-- the name of a dialect attribute
pub dialect_is : (name : List ℕ) → is_dialect_name name ≡ true → IsName 35 (codes "#" ++ name)
unfolding IsName IsSuffix
dialect_is name h = (name, refl, inr (and-left (is_word starts_suffix is_suffix_byte name) _ h))

no-digit : (b : ℕ) → starts_suffix b ≡ true → is_digit b ≡ false
unfolding starts_suffix is_digit is_letter
no-digit b h = grind (arith, nat_tests)

no_number : (name : List ℕ) → is_word starts_suffix is_suffix_byte name ≡ true → list_all is_digit name ≡ false
no_number [] h = absurd (false≢true h)
no_number (b ∷ bs) h = rw (no-digit b (and-left _ _ h)) refl

pub dialect_kind : (name : List ℕ) → is_dialect_name name ≡ true → hash_kind (codes "#" ++ name) ≡ kinds.HashDotted
unfolding hash_kind
dialect_kind name h =
    let no : list_all is_digit name ≡ false = no_number name (and-left (is_word starts_suffix is_suffix_byte name) _ h) in
    let dot : has_dot name ≡ true = and-right (is_word starts_suffix is_suffix_byte name) _ h in
    rw (no, dot) refl
