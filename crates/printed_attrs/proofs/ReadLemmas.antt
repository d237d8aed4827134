-- The words of an attribute are what the grammar calls one.
use Rattle.std.proofs.Common.{◌≡◌, ℕ, ◌&&◌, ◌||◌, Bool, true, false, List, [], ◌∷◌, ◌++◌, refl, sym}
use Rattle.std.specs.Prelude.{codes, ℤ, pos, negsuc, if◌then◌else◌}
use Rattle.std.proofs.lemmas.Bool.{false≢true}
use Rattle.mlir_lex.specs.Bytes.{is_bare}
use Rattle.mlir_lex.proofs.Lengths.{and-left, and-right}
use Rattle.plain_tree.specs.Types.{PlainType, Int, Index, Memref, Func, Ptr, Void, Struct, Array, LlvmFunc}
use Rattle.plain_tree.specs.Attrs.{PlainAttr, PlainAttrs, PlainDict, Unit, Number, Text, Attrs, Dict, OfType, Symbol, Numbers, Dialect, end_of_attrs, more_attrs, end_of_entries, more_entries}
use Rattle.rule_model.specs.Forms.{is_number}
use Rattle.rule_model.specs.Formed.{is_formed_type, is_number_of}
use Rattle.line_grammar.specs.Grammar.{Has}
use Rattle.text_grammar.specs.declared.kinds.Kind.TheVariants as kinds
use Rattle.text_grammar.specs.declared.places.Place.TheVariants as places
use Rattle.text_grammar.specs.declared.parts.Part.{Part}
use Rattle.text_grammar.specs.declared.parts.Part.TheVariants as parts
use Rattle.text_grammar.specs.Places.{fits_at}
use Rattle.text_grammar.specs.TokenKinds.{bare_kind}
use Rattle.text_grammar.specs.Table.{Wanted, lines_of, at, some}
use Rattle.printed_words.specs.Words.{PrintedWord, word, AreRead}
use Rattle.printed_words.proofs.ReadLemmas.{has_at, took, opened, left, if_read}
use Rattle.printed_words.proofs.NameLemmas.{bare-is-name}
use Rattle.printed_types.specs.TypeWords.{type_words, int_kind, is_byte_width}
use Rattle.printed_types.proofs.ReadLemmas.{HasLine, type_read, element_read}
use Rattle.printed_attrs.specs.AttrWords.{attr_words, items_words, more_items, dict_words, more_dict, signed_words, numbers_words, more_numbers, dialect_words, more_dialect, name_kind, valued, is_unit, is_bit}
use Rattle.printed_attrs.specs.Readable.{is_readable, are_readable, is_readable_dict, are_bytes}

-- a part has the lines of attributes, with some symbols behind
pub record Host (n : Part) (more : List Wanted) : Type 0 where
  pub text : Has (places.TextAttr, more) (lines_of n)
  pub number : Has (places.IntegerNumber, some parts.NumberType ∷ more) (lines_of n)
  pub minus : Has (places.IntegerMinus, at places.IntegerNumber ∷ some parts.NumberType ∷ more) (lines_of n)
  pub bool : Has (places.BoolWord, more) (lines_of n)
  pub items : Has (places.ItemsOpen, some parts.Items ∷ at places.ItemsClose ∷ more) (lines_of n)
  pub dict : Has (places.AttrDictOpen, some parts.Entries ∷ at places.AttrDictClose ∷ more) (lines_of n)
  pub symbol : Has (places.Symbol, some parts.SymbolEnd ∷ more) (lines_of n)
  pub dialect : Has (places.DialectName, some parts.DialectWords ∷ more) (lines_of n)
  pub numbers : Has (places.NumbersWord, at places.NumbersLess ∷ at places.NumbersWidth ∷ some parts.Numbers ∷ at places.NumbersGreater ∷ more) (lines_of n)
  pub types : (t : PlainType) → HasLine false t more n

attr_types : (t : PlainType) → HasLine false t [] parts.Attr
attr_types (Int width) = has_at 10 _ _ refl
attr_types Index = has_at 10 _ _ refl
attr_types (Memref dims element) = has_at 17 _ _ refl
attr_types (Func inputs results) = has_at 18 _ _ refl
attr_types Ptr = has_at 13 _ _ refl
attr_types Void = has_at 13 _ _ refl
attr_types (Struct fields) = has_at 14 _ _ refl
attr_types (Array n element) = has_at 15 _ _ refl
attr_types (LlvmFunc output inputs) = has_at 16 _ _ refl

items_types : (t : PlainType) → HasLine false t (some parts.MoreItems ∷ []) parts.Items
items_types (Int width) = has_at 10 _ _ refl
items_types Index = has_at 10 _ _ refl
items_types (Memref dims element) = has_at 17 _ _ refl
items_types (Func inputs results) = has_at 18 _ _ refl
items_types Ptr = has_at 13 _ _ refl
items_types Void = has_at 13 _ _ refl
items_types (Struct fields) = has_at 14 _ _ refl
items_types (Array n element) = has_at 15 _ _ refl
items_types (LlvmFunc output inputs) = has_at 16 _ _ refl

pub one_host : Host parts.Attr []
one_host = record {
  text = has_at 0 _ _ refl;
  number = has_at 1 _ _ refl;
  minus = has_at 2 _ _ refl;
  bool = has_at 3 _ _ refl;
  items = has_at 4 _ _ refl;
  dict = has_at 5 _ _ refl;
  symbol = has_at 6 _ _ refl;
  dialect = has_at 7 _ _ refl;
  numbers = has_at 9 _ _ refl;
  types = attr_types;
}

items_host : Host parts.Items (some parts.MoreItems ∷ [])
items_host = record {
  text = has_at 0 _ _ refl;
  number = has_at 1 _ _ refl;
  minus = has_at 2 _ _ refl;
  bool = has_at 3 _ _ refl;
  items = has_at 4 _ _ refl;
  dict = has_at 5 _ _ refl;
  symbol = has_at 6 _ _ refl;
  dialect = has_at 7 _ _ refl;
  numbers = has_at 9 _ _ refl;
  types = items_types;
}

-- integers
pub number_type : (t : PlainType) (v : ℤ) → is_number_of t v ≡ true → is_number t ≡ true
number_type (Int width) v h = refl
number_type Index v h = refl
number_type _ v h = absurd (false≢true h)

type_behind : (t : PlainType) (wanted : List Wanted) (ws : List PrintedWord) → is_number t ≡ true → AreRead wanted ws
    → AreRead (some parts.NumberType ∷ wanted) (word (codes " ") places.NumberColon kinds.Colon (codes ":") ∷ type_words false places.ElementWord (codes " ") t ws)
type_behind t wanted ws n h = opened _ parts.NumberType places.NumberColon (some parts.IntegerType ∷ []) kinds.Colon _ (has_at 0 _ _ refl) refl (element_read false (codes " ") t wanted ws n h)

wide_read : (gap : List ℕ) (v : ℤ) (n : Part) (more wanted : List Wanted) (ws : List PrintedWord) → Host n more → AreRead (some parts.NumberType ∷ more ++ wanted) ws → AreRead (some n ∷ wanted) (signed_words gap places.IntegerMinus places.IntegerNumber v ws)
wide_read gap (pos k) n more wanted ws host h = opened gap n places.IntegerNumber (some parts.NumberType ∷ more) kinds.Number _ host.number refl h
wide_read gap (negsuc k) n more wanted ws host h = opened gap n places.IntegerMinus (at places.IntegerNumber ∷ some parts.NumberType ∷ more) kinds.Minus _ host.minus refl (took _ places.IntegerNumber kinds.Number _ refl h)

-- the numbers of an array
listed_read : (gap : List ℕ) (v : ℤ) (wanted : List Wanted) (ws : List PrintedWord) → AreRead wanted ws → AreRead (some parts.ListNumber ∷ wanted) (signed_words gap places.ListedMinus places.ListedNumber v ws)
listed_read gap (pos k) wanted ws h = opened gap parts.ListNumber places.ListedNumber [] kinds.Number _ (has_at 0 _ _ refl) refl h
listed_read gap (negsuc k) wanted ws h = opened gap parts.ListNumber places.ListedMinus (at places.ListedNumber ∷ []) kinds.Minus _ (has_at 1 _ _ refl) refl (took _ places.ListedNumber kinds.Number _ refl h)

more_listed : (vs : List ℤ) (wanted : List Wanted) (ws : List PrintedWord) → AreRead wanted ws → AreRead (some parts.MoreNumbers ∷ wanted) (more_numbers vs ws)
more_listed [] wanted ws h = left parts.MoreNumbers refl h
more_listed (v ∷ vs) wanted ws h =
    opened _ parts.MoreNumbers places.NumbersComma (some parts.ListNumber ∷ some parts.MoreNumbers ∷ []) kinds.Comma _ (has_at 0 _ _ refl) refl (listed_read (codes " ") v _ _ (more_listed vs wanted ws h))

numbers_read : (vs : List ℤ) (wanted : List Wanted) (ws : List PrintedWord) → AreRead wanted ws → AreRead (some parts.Numbers ∷ wanted) (numbers_words vs ws)
numbers_read [] wanted ws h = left parts.Numbers refl h
numbers_read (v ∷ vs) wanted ws h =
    opened _ parts.Numbers places.NumbersColon (some parts.ListNumber ∷ some parts.MoreNumbers ∷ []) kinds.Colon _ (has_at 0 _ _ refl) refl (listed_read (codes " ") v _ _ (more_listed vs wanted ws h))

-- the words of a dialect attribute
more_dialect_read : (names : List (List ℕ)) (wanted : List Wanted) (ws : List PrintedWord) → AreRead wanted ws → AreRead (some parts.MoreWords ∷ wanted) (more_dialect names ws)
more_dialect_read [] wanted ws h = left parts.MoreWords refl h
more_dialect_read (n ∷ names) wanted ws h =
    opened _ parts.MoreWords places.DialectComma (at places.DialectWord ∷ some parts.MoreWords ∷ []) kinds.Comma _ (has_at 0 _ _ refl) refl
    (took _ places.DialectWord (bare_kind n) _ (bare-is-name n).at_word (more_dialect_read names wanted ws h))

dialect_read : (names : List (List ℕ)) (wanted : List Wanted) (ws : List PrintedWord) → AreRead wanted ws → AreRead (some parts.DialectWords ∷ wanted) (dialect_words names ws)
dialect_read [] wanted ws h = left parts.DialectWords refl h
dialect_read (n ∷ names) wanted ws h =
    opened _ parts.DialectWords places.DialectLess (at places.DialectWord ∷ some parts.MoreWords ∷ at places.DialectGreater ∷ []) kinds.Less _ (has_at 0 _ _ refl) refl
    (took _ places.DialectWord (bare_kind n) _ (bare-is-name n).at_word (more_dialect_read names _ _ (took _ places.DialectGreater kinds.Greater _ refl h)))

-- the name of an entry
name_fits : (name : List ℕ) → fits_at places.EntryName (name_kind name) ≡ true
name_fits name = by_test (is_bare name)
  where
    by_test : (t : Bool) → fits_at places.EntryName (if t then bare_kind name else kinds.Text) ≡ true
    by_test true = (bare-is-name name).at_entry
    by_test false = refl

-- its value
valued_read : (unit : Bool) (wanted : List Wanted) (rest value : List PrintedWord) → AreRead wanted rest → (unit ≡ false → AreRead (some parts.Attr ∷ wanted) value) → AreRead (some parts.EntryValue ∷ wanted) (valued unit rest value)
valued_read true wanted rest value h k = left parts.EntryValue refl h
valued_read false wanted rest value h k = opened _ parts.EntryValue places.EntryEquals (some parts.Attr ∷ []) kinds.Equals _ (has_at 0 _ _ refl) refl (k refl)

pub or_other : (s t : Bool) → (s || t) ≡ true → s ≡ false → t ≡ true
or_other true t h e = absurd (false≢true (sym e))
or_other false t h e = h

-- the width of an array of numbers
width_fits : (width : ℕ) → is_byte_width width ≡ true → fits_at places.NumbersWidth (int_kind width) ≡ true
width_fits width h = rw h refl

mutual
  -- by a part that has the lines of attributes
  pub attr_read : (gap : List ℕ) (a : PlainAttr) (n : Part) (more wanted : List Wanted) (ws : List PrintedWord) → is_readable a ≡ true → Host n more → AreRead (more ++ wanted) ws → AreRead (some n ∷ wanted) (attr_words gap a ws)
  attr_read gap Unit n more wanted ws r host h = absurd (false≢true r)
  attr_read gap (Number v t) n more wanted ws r host h =
      let number : is_number t ≡ true = number_type t v (and-right (is_formed_type t) _ r) in
      if_read (is_bit t) (some n ∷ wanted) _ _ (λ _. opened gap n places.BoolWord more kinds.WordBool _ host.bool refl h) (λ _. wide_read gap v n more wanted _ host (type_behind t _ ws number h))
  attr_read gap (Text bytes) n more wanted ws r host h = opened gap n places.TextAttr more kinds.Text _ host.text refl h
  attr_read gap (Attrs attrs) n more wanted ws r host h =
      opened gap n places.ItemsOpen (some parts.Items ∷ at places.ItemsClose ∷ more) kinds.OpenSquare _ host.items refl (items_read attrs _ _ r (took _ places.ItemsClose kinds.CloseSquare _ refl h))
  attr_read gap (Dict entries) n more wanted ws r host h =
      opened gap n places.AttrDictOpen (some parts.Entries ∷ at places.AttrDictClose ∷ more) kinds.OpenBrace _ host.dict refl (dict_read entries _ _ r (took _ places.AttrDictClose kinds.CloseBrace _ refl h))
  attr_read gap (OfType t) n more wanted ws r host h = type_read false gap t n more wanted ws r (host.types t) h
  attr_read gap (Symbol name) n more wanted ws r host h = opened gap n places.Symbol (some parts.SymbolEnd ∷ more) kinds.SymbolName _ host.symbol refl (left parts.SymbolEnd refl h)
  attr_read gap (Numbers width values) n more wanted ws r host h =
      opened gap n places.NumbersWord (at places.NumbersLess ∷ at places.NumbersWidth ∷ some parts.Numbers ∷ at places.NumbersGreater ∷ more) kinds.WordArray _ host.numbers refl
      (took _ places.NumbersLess kinds.Less _ refl (took _ places.NumbersWidth (int_kind width) _ (width_fits width (and-left _ _ r))
      (numbers_read values _ _ (took _ places.NumbersGreater kinds.Greater _ refl h))))
  attr_read gap (Dialect name words) n more wanted ws r host h = opened gap n places.DialectName (some parts.DialectWords ∷ more) kinds.HashDotted _ host.dialect refl (dialect_read words _ ws h)

  pub items_read : (items : PlainAttrs) (wanted : List Wanted) (ws : List PrintedWord) → are_readable items ≡ true → AreRead wanted ws → AreRead (some parts.Items ∷ wanted) (items_words items ws)
  items_read end_of_attrs wanted ws r h = left parts.Items refl h
  items_read (more_attrs a items) wanted ws r h = attr_read [] a parts.Items (some parts.MoreItems ∷ []) wanted _ (and-left _ _ r) items_host (more_items_read items wanted ws (and-right (is_readable a) _ r) h)

  pub more_items_read : (items : PlainAttrs) (wanted : List Wanted) (ws : List PrintedWord) → are_readable items ≡ true → AreRead wanted ws → AreRead (some parts.MoreItems ∷ wanted) (more_items items ws)
  more_items_read end_of_attrs wanted ws r h = left parts.MoreItems refl h
  more_items_read (more_attrs a items) wanted ws r h =
      opened _ parts.MoreItems places.ItemComma (some parts.Attr ∷ some parts.MoreItems ∷ []) kinds.Comma _ (has_at 0 _ _ refl) refl
      (attr_read (codes " ") a parts.Attr [] (some parts.MoreItems ∷ wanted) _ (and-left _ _ r) one_host (more_items_read items wanted ws (and-right (is_readable a) _ r) h))

  pub dict_read : (d : PlainDict) (wanted : List Wanted) (ws : List PrintedWord) → is_readable_dict d ≡ true → AreRead wanted ws → AreRead (some parts.Entries ∷ wanted) (dict_words d ws)
  dict_read end_of_entries wanted ws r h = left parts.Entries refl h
  dict_read (more_entries name a d) wanted ws r h =
      let both : ((is_unit a || is_readable a) && is_readable_dict d) ≡ true = and-right (are_bytes name) _ r in
      let rest = more_dict_read d wanted ws (and-right (is_unit a || is_readable a) _ both) h in
      opened _ parts.Entries places.EntryName (some parts.EntryValue ∷ some parts.MoreEntries ∷ []) (name_kind name) _ (has_at 0 _ _ refl) (name_fits name)
      (valued_read (is_unit a) _ _ _ rest (λ no. attr_read (codes " ") a parts.Attr [] _ _ (or_other (is_unit a) _ (and-left (is_unit a || is_readable a) _ both) no) one_host rest))

  pub more_dict_read : (d : PlainDict) (wanted : List Wanted) (ws : List PrintedWord) → is_readable_dict d ≡ true → AreRead wanted ws → AreRead (some parts.MoreEntries ∷ wanted) (more_dict d ws)
  more_dict_read end_of_entries wanted ws r h = left parts.MoreEntries refl h
  more_dict_read (more_entries name a d) wanted ws r h =
      let both : ((is_unit a || is_readable a) && is_readable_dict d) ≡ true = and-right (are_bytes name) _ r in
      let rest = more_dict_read d wanted ws (and-right (is_unit a || is_readable a) _ both) h in
      opened _ parts.MoreEntries places.EntryComma (at places.EntryName ∷ some parts.EntryValue ∷ some parts.MoreEntries ∷ []) kinds.Comma _ (has_at 0 _ _ refl) refl
      (took _ places.EntryName (name_kind name) _ (name_fits name)
      (valued_read (is_unit a) _ _ _ rest (λ no. attr_read (codes " ") a parts.Attr [] _ _ (or_other (is_unit a) _ (and-left (is_unit a || is_readable a) _ both) no) one_host rest)))
