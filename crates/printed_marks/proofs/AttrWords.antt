-- The words of attributes and dictionaries keep what each word keeps.
use Rattle.std.proofs.Common.{◌≡◌, ℕ, Bool, true, false, List, [], ◌∷◌, refl}
use Rattle.std.specs.Prelude.{codes, ℤ, pos, negsuc}
use Rattle.plain_tree.specs.Attrs.{PlainAttr, PlainAttrs, PlainDict, Unit, Number, Text, Attrs, Dict, OfType, Symbol, Numbers, Dialect, end_of_attrs, more_attrs, end_of_entries, more_entries}
use Rattle.text_grammar.specs.declared.places.Place.{Place}
use Rattle.text_grammar.specs.declared.places.Place.TheVariants as places
use Rattle.printed_words.specs.Words.{PrintedWord}
use Rattle.printed_attrs.specs.AttrWords.{attr_words, items_words, more_items, dict_words, more_dict, signed_words, numbers_words, more_numbers, dialect_words, more_dialect, valued, is_unit, is_bit}
use Rattle.printed_marks.proofs.TypeWords.{type_kept}
use Rattle.printed_marks.proofs.Kept.{is_simple, Kept, either}

module _ (P : List PrintedWord → Type 0) (k : Kept P) where
  signed_kept : (gap : List ℕ) (minus number : Place) (v : ℤ) (rest : List PrintedWord) → is_simple minus ≡ true → is_simple number ≡ true → P rest → P (signed_words gap minus number v rest)
  signed_kept gap minus number (pos n) rest p q h = k.on _ _ number _ _ q h
  signed_kept gap minus number (negsuc n) rest p q h = k.on _ _ minus _ _ p (k.on _ _ number _ _ q h)

  more_numbers_kept : (vs : List ℤ) (rest : List PrintedWord) → P rest → P (more_numbers vs rest)
  more_numbers_kept [] rest h = h
  more_numbers_kept (v ∷ vs) rest h = k.on _ _ _ _ _ refl (signed_kept (codes " ") places.ListedMinus places.ListedNumber v _ refl refl (more_numbers_kept vs rest h))

  numbers_kept : (vs : List ℤ) (rest : List PrintedWord) → P rest → P (numbers_words vs rest)
  numbers_kept [] rest h = h
  numbers_kept (v ∷ vs) rest h = k.on _ _ _ _ _ refl (signed_kept (codes " ") places.ListedMinus places.ListedNumber v _ refl refl (more_numbers_kept vs rest h))

  more_dialect_kept : (ws : List (List ℕ)) (rest : List PrintedWord) → P rest → P (more_dialect ws rest)
  more_dialect_kept [] rest h = h
  more_dialect_kept (w ∷ ws) rest h = k.on _ _ _ _ _ refl (k.on _ _ _ _ _ refl (more_dialect_kept ws rest h))

  dialect_kept : (ws : List (List ℕ)) (rest : List PrintedWord) → P rest → P (dialect_words ws rest)
  dialect_kept [] rest h = h
  dialect_kept (w ∷ ws) rest h = k.on _ _ _ _ _ refl (k.on _ _ _ _ _ refl (more_dialect_kept ws _ (k.on _ _ _ _ _ refl h)))

  valued_kept : (unit : Bool) (rest value : List PrintedWord) → P rest → P value → P (valued unit rest value)
  valued_kept true rest value h v = h
  valued_kept false rest value h v = k.on _ _ _ _ _ refl v

  mutual
    pub attr_kept : (gap : List ℕ) (a : PlainAttr) (rest : List PrintedWord) → P rest → P (attr_words gap a rest)
    attr_kept gap Unit rest h = k.on _ _ _ _ _ refl h
    attr_kept gap (Number v t) rest h =
        either P (is_bit t) _ _ (k.on _ _ _ _ _ refl h)
        (signed_kept gap places.IntegerMinus places.IntegerNumber v _ refl refl (k.on _ _ _ _ _ refl (type_kept P k false places.ElementWord (codes " ") t rest refl h)))
    attr_kept gap (Text bytes) rest h = k.on _ _ _ _ _ refl h
    attr_kept gap (Attrs attrs) rest h = k.on _ _ _ _ _ refl (items_kept attrs _ (k.on _ _ _ _ _ refl h))
    attr_kept gap (Dict d) rest h = k.on _ _ _ _ _ refl (dict_kept d _ (k.on _ _ _ _ _ refl h))
    attr_kept gap (OfType t) rest h = type_kept P k false places.IntegerWord gap t rest refl h
    attr_kept gap (Symbol name) rest h = k.on _ _ _ _ _ refl h
    attr_kept gap (Numbers width values) rest h = k.on _ _ _ _ _ refl (k.on _ _ _ _ _ refl (k.on _ _ _ _ _ refl (numbers_kept values _ (k.on _ _ _ _ _ refl h))))
    attr_kept gap (Dialect name names) rest h = k.on _ _ _ _ _ refl (dialect_kept names rest h)

    pub items_kept : (attrs : PlainAttrs) (rest : List PrintedWord) → P rest → P (items_words attrs rest)
    items_kept end_of_attrs rest h = h
    items_kept (more_attrs a more) rest h = attr_kept [] a _ (more_items_kept more rest h)

    pub more_items_kept : (attrs : PlainAttrs) (rest : List PrintedWord) → P rest → P (more_items attrs rest)
    more_items_kept end_of_attrs rest h = h
    more_items_kept (more_attrs a more) rest h = k.on _ _ _ _ _ refl (attr_kept (codes " ") a _ (more_items_kept more rest h))

    pub dict_kept : (d : PlainDict) (rest : List PrintedWord) → P rest → P (dict_words d rest)
    dict_kept end_of_entries rest h = h
    dict_kept (more_entries name a more) rest h =
        k.on _ _ _ _ _ refl (valued_kept (is_unit a) _ _ (more_dict_kept more rest h) (attr_kept (codes " ") a _ (more_dict_kept more rest h)))

    pub more_dict_kept : (d : PlainDict) (rest : List PrintedWord) → P rest → P (more_dict d rest)
    more_dict_kept end_of_entries rest h = h
    more_dict_kept (more_entries name a more) rest h =
        k.on _ _ _ _ _ refl (k.on _ _ _ _ _ refl (valued_kept (is_unit a) _ _ (more_dict_kept more rest h) (attr_kept (codes " ") a _ (more_dict_kept more rest h))))
