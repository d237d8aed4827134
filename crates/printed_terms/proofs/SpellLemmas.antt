-- What printed strings and names spell.
use Rattle.std.proofs.Common.{◌≡◌, ℕ, ◌+◌, ◌*◌, ◌/◌, ◌%◌, ◌-◌, ◌<◌, Bool, true, false, ◌==◌, List, [], ◌∷◌, ◌++◌, length, take, drop, refl, sym, ap, ◌∙◌, arith, length-append}
use Rattle.std.specs.Prelude.{codes, flat_map, nat_lt, if◌then◌else◌}
use Rattle.std.specs.List.{list_all}
use Rattle.std.proofs.lemmas.Bool.{false≢true}
use Rattle.std.proofs.lemmas.Bool.Decides.{nat_tests}
use Rattle.mlir_lex.specs.Bytes.{is_bare, is_bare_byte, is_word, is_digit, is_letter, starts_bare, starts_suffix, is_suffix_byte, is_short_escape}
use Rattle.mlir_lex.proofs.Lengths.{and-both, and-left, and-right, bare-goes-on, eqb-is}
use Rattle.tree_text.specs.NameText.{hex_digit, stands_plain, byte_text, string_text, name_text}
use Rattle.text_grammar.specs.declared.kinds.Kind.{Kind}
use Rattle.text_grammar.specs.declared.kinds.Kind.TheVariants as kinds
use Rattle.text_grammar.specs.TokenKinds.{bare_kind, type_word, digit_value}
use Rattle.text_events.specs.Spelling.{inside, unquoted, core, short_escape, unescaped, behind_sign}
use Rattle.printed_attrs.specs.AttrWords.{name_kind}
use Rattle.printed_attrs.specs.Readable.{are_bytes, is_dialect_name}
use Rattle.printed_terms.specs.Told.{spells}

-- an escape of two digits
no_short : (n : ℕ) → n < 16 → is_short_escape (hex_digit n) ≡ false
unfolding is_short_escape
no_short n h = by_test (nat_lt n 10) refl
  where
    by_test : (t : Bool) → nat_lt n 10 ≡ t → is_short_escape (if t then 48 + n else 55 + n) ≡ false
    by_test true e = grind (arith, nat_tests)
    by_test false e = grind (arith, nat_tests)

hex_value : (n : ℕ) → n < 16 → digit_value (hex_digit n) ≡ n
hex_value n h = by_test (nat_lt n 10) refl
  where
    by_test : (t : Bool) → nat_lt n 10 ≡ t → digit_value (if t then 48 + n else 55 + n) ≡ n
    by_test true e = grind (arith, nat_tests)
    by_test false e = grind (arith, nat_tests)

two_digits : (b h k : ℕ) → b < 256 → h ≡ b / 16 → k ≡ b % 16 → (h * 16 + k) % 256 ≡ b
two_digits b h k few p q = rw (p, q) (small_mod (b / 16 * 16 + b % 16) b few (omega arith))
  where
    small_mod : (m n : ℕ) → n < 256 → m ≡ n → m % 256 ≡ n
    small_mod m n l e = omega arith

escaped : (b h k : ℕ) (rest : List ℕ) → b < 256 → is_short_escape h ≡ false → digit_value h ≡ b / 16 → digit_value k ≡ b % 16 → unescaped (92 ∷ h ∷ k ∷ rest) ≡ b ∷ unescaped rest
escaped b h k rest few other p q = ap (λ t. if t then short_escape h ∷ unescaped (k ∷ rest) else (digit_value h * 16 + digit_value k) % 256 ∷ unescaped rest) other ∙ ap (λ n. n ∷ unescaped rest) (two_digits b (digit_value h) (digit_value k) few p q)

byte_spelled : (b : ℕ) (rest : List ℕ) → nat_lt b 256 ≡ true → unescaped (byte_text b ++ rest) ≡ b ∷ unescaped rest
unfolding is_short_escape
byte_spelled b rest small = by_tests (b == 92) refl (stands_plain b) refl
  where
    by_tests : (s : Bool) → (b == 92) ≡ s → (t : Bool) → stands_plain b ≡ t → unescaped ((if s then 92 ∷ 92 ∷ [] else (if t then b ∷ [] else 92 ∷ hex_digit (b / 16) ∷ hex_digit (b % 16) ∷ [])) ++ rest) ≡ b ∷ unescaped rest
    by_tests true e t f = ap (λ n. n ∷ unescaped rest) (sym (eqb-is b 92 e))
    by_tests false e true f = ap (λ t. if t then behind_sign rest else b ∷ unescaped rest) e
    by_tests false e false f =
        let few : b < 256 = grind (arith, nat_tests) in
        escaped b (hex_digit (b / 16)) (hex_digit (b % 16)) rest few (no_short (b / 16) (omega arith)) (hex_value (b / 16) (omega arith)) (hex_value (b % 16) (omega arith))

bytes_spelled : (bytes : List ℕ) → are_bytes bytes ≡ true → unescaped (flat_map byte_text bytes) ≡ bytes
bytes_spelled [] h = refl
bytes_spelled (b ∷ bytes) h = byte_spelled b (flat_map byte_text bytes) (and-left _ _ h) ∙ ap (λ bs. b ∷ bs) (bytes_spelled bytes (and-right (nat_lt b 256) _ h))

-- between two quotes
take_front : (n : ℕ) (xs ys : List ℕ) → n ≡ length xs → take n (xs ++ ys) ≡ xs
take_front n xs ys e = rw e (front xs)
  where
    front : (zs : List ℕ) → take (length zs) (zs ++ ys) ≡ zs
    front [] = refl
    front (z ∷ zs) = ap (λ more. z ∷ more) (front zs)

inside_is : (bytes : List ℕ) → inside (34 ∷ (bytes ++ 34 ∷ [])) ≡ bytes
inside_is bytes = take_front (length (34 ∷ (bytes ++ 34 ∷ [])) - 1 - 1) bytes (34 ∷ []) (omega (arith, length-append bytes (34 ∷ [])))

pub string_spelled : (bytes : List ℕ) → are_bytes bytes ≡ true → spells kinds.Text (string_text bytes) ≡ bytes
unfolding core
string_spelled bytes h = ap unescaped (inside_is (flat_map byte_text bytes)) ∙ bytes_spelled bytes h

-- names without escapes
not_escape : (b : ℕ) → is_suffix_byte b ≡ true → (b == 92) ≡ false
unfolding is_suffix_byte starts_suffix is_letter is_digit
not_escape b h = grind (arith, nat_tests)

pub suffix_spelled : (bytes : List ℕ) → list_all is_suffix_byte bytes ≡ true → unescaped bytes ≡ bytes
suffix_spelled [] h = refl
suffix_spelled (b ∷ bs) h = ap (λ t. if t then behind_sign bs else b ∷ unescaped bs) (not_escape b (and-left _ _ h)) ∙ ap (λ more. b ∷ more) (suffix_spelled bs (and-right (is_suffix_byte b) _ h))

bare_suffix_byte : (b : ℕ) → is_bare_byte b ≡ true → is_suffix_byte b ≡ true
unfolding is_bare_byte is_suffix_byte starts_suffix is_letter is_digit
bare_suffix_byte b h = grind (arith, nat_tests)

all_suffix : (bs : List ℕ) → list_all is_bare_byte bs ≡ true → list_all is_suffix_byte bs ≡ true
all_suffix [] h = refl
all_suffix (b ∷ bs) h = and-both _ _ (bare_suffix_byte b (and-left _ _ h)) (all_suffix bs (and-right (is_bare_byte b) _ h))

bare_all : (name : List ℕ) → is_bare name ≡ true → list_all is_suffix_byte name ≡ true
bare_all [] h = absurd (false≢true h)
bare_all (b ∷ bs) h = all_suffix (b ∷ bs) (and-both _ _ (bare-goes-on b (and-left _ _ h)) (and-right (starts_bare b) _ h))

-- bare identifiers have no quotes
record IsPlainKind (k : Kind) : Type 0 where
  core_is : (bytes : List ℕ) → core k bytes ≡ bytes

either : (b : Bool) (x y : Kind) → IsPlainKind x → IsPlainKind y → IsPlainKind (if b then x else y)
either true x y h k = h
either false x y h k = k

bare_plain : (piece : List ℕ) → IsPlainKind (bare_kind piece)
unfolding bare_kind type_word core
bare_plain piece =
    either _ kinds.WordX _ (record { core_is = λ b. refl })
    (either _ kinds.WordLoc _ (record { core_is = λ b. refl })
    (either _ kinds.WordUnknown _ (record { core_is = λ b. refl })
    (either _ kinds.WordBool _ (record { core_is = λ b. refl })
    (either _ kinds.WordWidth _ (record { core_is = λ b. refl })
    (either _ kinds.WordInteger _ (record { core_is = λ b. refl })
    (either _ kinds.WordMemref _ (record { core_is = λ b. refl })
    (either _ kinds.WordArray _ (record { core_is = λ b. refl })
    (either _ kinds.WordPlain _ (record { core_is = λ b. refl })
    (either _ kinds.WordStruct _ (record { core_is = λ b. refl })
    (either _ kinds.WordFunction kinds.Word (record { core_is = λ b. refl }) (record { core_is = λ b. refl })))))))))))

pub bare_spelled : (name : List ℕ) → is_bare name ≡ true → spells (bare_kind name) name ≡ name
bare_spelled name h = ap unescaped ((bare_plain name).core_is name) ∙ suffix_spelled name (bare_all name h)

pub name_spelled : (name : List ℕ) → are_bytes name ≡ true → spells (name_kind name) (name_text name) ≡ name
name_spelled name h = by_test (is_bare name) refl
  where
    by_test : (t : Bool) → is_bare name ≡ t → spells (if t then bare_kind name else kinds.Text) (if t then name else string_text name) ≡ name
    by_test true e = bare_spelled name e
    by_test false e = string_spelled name h

-- symbols
not_quote : (b : ℕ) → starts_bare b ≡ true → (b == 34) ≡ false
unfolding starts_bare is_letter
not_quote b h = grind (arith, nat_tests)

unquoted_bare : (name : List ℕ) → is_bare name ≡ true → unquoted name ≡ name
unquoted_bare [] h = absurd (false≢true h)
unquoted_bare (b ∷ bs) h = ap (λ t. if t then inside (b ∷ bs) else b ∷ bs) (not_quote b (and-left _ _ h))

pub symbol_spelled : (name : List ℕ) → are_bytes name ≡ true → spells kinds.SymbolName (codes "@" ++ name_text name) ≡ name
unfolding core
symbol_spelled name h = by_test (is_bare name) refl
  where
    by_test : (t : Bool) → is_bare name ≡ t → unescaped (unquoted (if t then name else string_text name)) ≡ name
    by_test true e = ap unescaped (unquoted_bare name e) ∙ suffix_spelled name (bare_all name e)
    by_test false e = ap unescaped (inside_is (flat_map byte_text name)) ∙ bytes_spelled name h

-- names of dialect attributes
word_all : (name : List ℕ) → is_word starts_suffix is_suffix_byte name ≡ true → list_all is_suffix_byte name ≡ true
unfolding is_suffix_byte
word_all [] h = absurd (false≢true h)
word_all (b ∷ bs) h = and-both _ _ (rw (and-left (starts_suffix b) _ h) refl) (and-right (starts_suffix b) _ h)

pub dialect_spelled : (name : List ℕ) → is_dialect_name name ≡ true → drop 1 (spells kinds.HashDotted (codes "#" ++ name)) ≡ name
unfolding core
dialect_spelled name h = suffix_spelled name (word_all name (and-left (is_word starts_suffix is_suffix_byte name) _ h))
