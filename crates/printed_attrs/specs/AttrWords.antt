-- The words of a printed attribute, in front of the words behind it.
use Rattle.std.specs.Prelude.{ℕ, suc, ◌==◌, Bool, true, false, List, [], ◌∷◌, ◌++◌, codes, decimal, ℤ, pos, negsuc, if◌then◌else◌}
use Rattle.mlir_lex.specs.Bytes.{is_bare}
use Rattle.plain_tree.specs.Types.{PlainType, Int}
use Rattle.plain_tree.specs.Attrs.{PlainAttr, PlainAttrs, PlainDict, Unit, Number, Text, Attrs, Dict, OfType, Symbol, Numbers, Dialect, end_of_attrs, more_attrs, end_of_entries, more_entries}
use Rattle.tree_text.specs.NameText.{string_text, name_text}
use Rattle.tree_text.specs.AttrText.{bit_text}
use Rattle.text_grammar.specs.declared.kinds.Kind.{Kind}
use Rattle.text_grammar.specs.declared.kinds.Kind.TheVariants as kinds
use Rattle.text_grammar.specs.declared.places.Place.{Place}
use Rattle.text_grammar.specs.declared.places.Place.TheVariants as places
use Rattle.text_grammar.specs.TokenKinds.{bare_kind}
use Rattle.printed_words.specs.Words.{PrintedWord, word, sign}
use Rattle.printed_types.specs.TypeWords.{type_words, int_kind}

-- a signed number, whose minus is a word of its own
abbrev pub signed_words : List ℕ → (minus number : Place) → ℤ → List PrintedWord → List PrintedWord
signed_words gap minus number (pos n) rest = word gap number kinds.Number (decimal n) ∷ rest
signed_words gap minus number (negsuc n) rest = word gap minus kinds.Minus (codes "-") ∷ sign number kinds.Number (decimal (suc n)) ∷ rest

abbrev pub is_bit : PlainType → Bool
is_bit (Int width) = width == 1
is_bit _ = false

-- an integer: of `i1` a word, else with its type
abbrev pub number_words : List ℕ → ℤ → PlainType → List PrintedWord → List PrintedWord
number_words gap value t rest =
    if is_bit t then word gap places.BoolWord kinds.WordBool (bit_text value) ∷ rest
    else signed_words gap places.IntegerMinus places.IntegerNumber value (word (codes " ") places.NumberColon kinds.Colon (codes ":") ∷ type_words false places.ElementWord (codes " ") t rest)

-- the numbers of an array behind its width
abbrev pub more_numbers : List ℤ → List PrintedWord → List PrintedWord
more_numbers [] rest = rest
more_numbers (v ∷ vs) rest = sign places.NumbersComma kinds.Comma (codes ",") ∷ signed_words (codes " ") places.ListedMinus places.ListedNumber v (more_numbers vs rest)

abbrev pub numbers_words : List ℤ → List PrintedWord → List PrintedWord
numbers_words [] rest = rest
numbers_words (v ∷ vs) rest = sign places.NumbersColon kinds.Colon (codes ":") ∷ signed_words (codes " ") places.ListedMinus places.ListedNumber v (more_numbers vs rest)

-- the words of a dialect attribute behind its name
abbrev pub more_dialect : List (List ℕ) → List PrintedWord → List PrintedWord
more_dialect [] rest = rest
more_dialect (w ∷ ws) rest = sign places.DialectComma kinds.Comma (codes ",") ∷ word (codes " ") places.DialectWord (bare_kind w) w ∷ more_dialect ws rest

abbrev pub dialect_words : List (List ℕ) → List PrintedWord → List PrintedWord
dialect_words [] rest = rest
dialect_words (w ∷ ws) rest = sign places.DialectLess kinds.Less (codes "<") ∷ sign places.DialectWord (bare_kind w) w ∷ more_dialect ws (sign places.DialectGreater kinds.Greater (codes ">") ∷ rest)

-- the name of an entry: itself where it is a bare identifier, else a string
abbrev pub name_kind : List ℕ → Kind
name_kind name = if is_bare name then bare_kind name else kinds.Text

abbrev pub name_word : List ℕ → List ℕ → PrintedWord
name_word gap name = word gap places.EntryName (name_kind name) (name_text name)

abbrev pub is_unit : PlainAttr → Bool
is_unit Unit = true
is_unit _ = false

-- what stands behind an entry's name: nothing for a unit
abbrev pub valued : Bool → (rest value : List PrintedWord) → List PrintedWord
valued true rest value = rest
valued false rest value = word (codes " ") places.EntryEquals kinds.Equals (codes "=") ∷ value

abbrev mutual
  -- an attribute behind this white space
  pub attr_words : List ℕ → PlainAttr → List PrintedWord → List PrintedWord
  -- `unit` is no attribute of a text but as an entry without a value
  attr_words gap Unit rest = word gap places.UnsupportedAttrWord kinds.Word (codes "unit") ∷ rest
  attr_words gap (Number value t) rest = number_words gap value t rest
  attr_words gap (Text bytes) rest = word gap places.TextAttr kinds.Text (string_text bytes) ∷ rest
  attr_words gap (Attrs attrs) rest = word gap places.ItemsOpen kinds.OpenSquare (codes "[") ∷ items_words attrs (sign places.ItemsClose kinds.CloseSquare (codes "]") ∷ rest)
  attr_words gap (Dict entries) rest = word gap places.AttrDictOpen kinds.OpenBrace (codes "{") ∷ dict_words entries (sign places.AttrDictClose kinds.CloseBrace (codes "}") ∷ rest)
  attr_words gap (OfType t) rest = type_words false places.IntegerWord gap t rest
  attr_words gap (Symbol name) rest = word gap places.Symbol kinds.SymbolName (codes "@" ++ name_text name) ∷ rest
  attr_words gap (Numbers width values) rest =
      word gap places.NumbersWord kinds.WordArray (codes "array") ∷ sign places.NumbersLess kinds.Less (codes "<") ∷ sign places.NumbersWidth (int_kind width) (codes "i" ++ decimal width)
      ∷ numbers_words values (sign places.NumbersGreater kinds.Greater (codes ">") ∷ rest)
  attr_words gap (Dialect name words) rest = word gap places.DialectName kinds.HashDotted (codes "#" ++ name) ∷ dialect_words words rest

  -- attributes with a comma between each two
  pub items_words : PlainAttrs → List PrintedWord → List PrintedWord
  items_words end_of_attrs rest = rest
  items_words (more_attrs a more) rest = attr_words [] a (more_items more rest)

  pub more_items : PlainAttrs → List PrintedWord → List PrintedWord
  more_items end_of_attrs rest = rest
  more_items (more_attrs a more) rest = sign places.ItemComma kinds.Comma (codes ",") ∷ attr_words (codes " ") a (more_items more rest)

  -- entries with a comma between each two
  pub dict_words : PlainDict → List PrintedWord → List PrintedWord
  dict_words end_of_entries rest = rest
  dict_words (more_entries name a more) rest = name_word [] name ∷ valued (is_unit a) (more_dict more rest) (attr_words (codes " ") a (more_dict more rest))

  pub more_dict : PlainDict → List PrintedWord → List PrintedWord
  more_dict end_of_entries rest = rest
  more_dict (more_entries name a more) rest = sign places.EntryComma kinds.Comma (codes ",") ∷ name_word (codes " ") name ∷ valued (is_unit a) (more_dict more rest) (attr_words (codes " ") a (more_dict more rest))
