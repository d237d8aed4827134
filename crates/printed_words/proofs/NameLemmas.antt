-- Names and strings as words.
use Rattle.std.proofs.Common.{◌≡◌, ℕ, Bool, true, false, List, [], ◌∷◌, refl, arith}
use Rattle.std.specs.Prelude.{if◌then◌else◌}
use Rattle.std.specs.List.{list_all}
use Rattle.std.proofs.lemmas.Bool.{false≢true}
use Rattle.std.proofs.lemmas.Bool.Decides.{nat_tests}
use Rattle.mlir_lex.specs.Bytes.{is_word, is_digit, is_letter, is_bare, is_bare_byte, starts_bare, starts_suffix, is_suffix_byte}
use Rattle.mlir_lex.proofs.Lengths.{and-both, and-left, and-right}
use Rattle.text_grammar.specs.declared.kinds.Kind.{Kind}
use Rattle.text_grammar.specs.declared.kinds.Kind.TheVariants as kinds
use Rattle.text_grammar.specs.declared.places.Place.TheVariants as places
use Rattle.text_grammar.specs.declared.cuts.Mode.{Mode}
use Rattle.text_grammar.specs.declared.cuts.Mode.TheVariants.{Plain}
use Rattle.text_grammar.specs.Places.{fits_at}
use Rattle.text_grammar.specs.TokenKinds.{bare_kind, type_word}
use Rattle.text_grammar.specs.Words.{mode_behind}

-- a bare identifier is a suffix
bare-starts : (b : ℕ) → starts_bare b ≡ true → starts_suffix b ≡ true
unfolding starts_bare starts_suffix is_letter
bare-starts b h = grind (arith, nat_tests)

bare-goes : (b : ℕ) → is_bare_byte b ≡ true → is_suffix_byte b ≡ true
unfolding is_bare_byte is_suffix_byte starts_suffix is_letter is_digit
bare-goes b h = grind (arith, nat_tests)

all-bare : (bs : List ℕ) → list_all is_bare_byte bs ≡ true → list_all is_suffix_byte bs ≡ true
all-bare [] h = refl
all-bare (b ∷ bs) h = and-both _ _ (bare-goes b (and-left _ _ h)) (all-bare bs (and-right (is_bare_byte b) _ h))

pub bare-suffix : (name : List ℕ) → is_bare name ≡ true → is_word starts_suffix is_suffix_byte name ≡ true
bare-suffix [] h = absurd (false≢true h)
bare-suffix (b ∷ bs) h = and-both _ _ (bare-starts b (and-left _ _ h)) (all-bare bs (and-right (starts_bare b) _ h))

-- each bare identifier may be an entry's name, and a word of a dialect attribute
pub record IsNameKind (k : Kind) : Type 0 where
  pub at_entry : fits_at places.EntryName k ≡ true
  pub at_word : fits_at places.DialectWord k ≡ true

either : (b : Bool) (x y : Kind) → IsNameKind x → IsNameKind y → IsNameKind (if b then x else y)
either true x y h k = h
either false x y h k = k

pub bare-is-name : (piece : List ℕ) → IsNameKind (bare_kind piece)
unfolding bare_kind type_word
bare-is-name piece =
    either _ kinds.WordX _ (record { at_entry = refl; at_word = refl })
    (either _ kinds.WordLoc _ (record { at_entry = refl; at_word = refl })
    (either _ kinds.WordUnknown _ (record { at_entry = refl; at_word = refl })
    (either _ kinds.WordBool _ (record { at_entry = refl; at_word = refl })
    (either _ kinds.WordWidth _ (record { at_entry = refl; at_word = refl })
    (either _ kinds.WordInteger _ (record { at_entry = refl; at_word = refl })
    (either _ kinds.WordMemref _ (record { at_entry = refl; at_word = refl })
    (either _ kinds.WordArray _ (record { at_entry = refl; at_word = refl })
    (either _ kinds.WordPlain _ (record { at_entry = refl; at_word = refl })
    (either _ kinds.WordStruct _ (record { at_entry = refl; at_word = refl })
    (either _ kinds.WordFunction kinds.Word (record { at_entry = refl; at_word = refl }) (record { at_entry = refl; at_word = refl })))))))))))

-- behind these signs no dimension is expected, whatever stands before
pub comma-mode : (mode : Mode) → mode_behind mode kinds.Comma ≡ Plain
comma-mode mode = refl

pub equals-mode : (mode : Mode) → mode_behind mode kinds.Equals ≡ Plain
equals-mode mode = refl

pub greater-mode : (mode : Mode) → mode_behind mode kinds.Greater ≡ Plain
greater-mode mode = refl

pub braced-mode : (mode : Mode) → mode_behind mode kinds.CloseBrace ≡ Plain
braced-mode mode = refl
