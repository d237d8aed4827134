-- The text of an attribute's words is the attribute's text.
use Rattle.std.proofs.Common.{◌≡◌, ℕ, Bool, true, false, List, [], ◌∷◌, ◌++◌, map, refl, sym, ap, ◌∙◌, append_assoc}
use Rattle.std.specs.Prelude.{codes, decimal, ℤ, pos, negsuc, if◌then◌else◌}
use Rattle.std.specs.Fmt.{signed_decimal}
use Rattle.tree_model.specs.declared.type_tree.TypeTree.{TypeTree}
use Rattle.tree_model.specs.declared.type_tree.TypeTree.TheVariants as type_parts
use Rattle.tree_model.specs.declared.attr_tree.AttrTree.{AttrTree, out-AttrTree, map-AttrTree, fold_out-AttrTree}
use Rattle.tree_model.specs.declared.attr_tree.AttrTree as attr
use Rattle.tree_model.specs.declared.attr_tree.AttrTree.TheVariants as attr_parts
use Rattle.tree_model.specs.declared.attr_tree.AttrTree.TheOpen.{AttrTree-F}
use Rattle.plain_tree.specs.Types.{PlainType, Int, Index, Memref, Func, Ptr, Void, Struct, Array, LlvmFunc, type_tree, type_trees}
use Rattle.plain_tree.specs.Attrs.{PlainAttr, PlainAttrs, PlainDict, Unit, Number, Text, Attrs, Dict, OfType, Symbol, Numbers, Dialect, end_of_attrs, more_attrs, end_of_entries, more_entries, attr_tree, attr_trees, dict_tree}
use Rattle.tree_text.specs.Joined.{joined, led_by}
use Rattle.tree_text.specs.NameText.{name_text}
use Rattle.tree_text.specs.TypeText.{type_text}
use Rattle.tree_text.specs.AttrText.{Shown, shown, show_step, is_bit_at, bit_text, integer_text, value_text, entry_text, entries_text, numbers_text, words_text, shown_entries, attr_text, dict_text}
use Rattle.tree_text.specs.AttrText as printed
use Rattle.text_grammar.specs.declared.places.Place.{Place}
use Rattle.text_grammar.specs.declared.places.Place.TheVariants as places
use Rattle.text_grammar.specs.declared.kinds.Kind.TheVariants as kinds
use Rattle.printed_words.specs.Words.{PrintedWord, word, sign, text_of}
use Rattle.printed_types.specs.TypeWords.{type_words}
use Rattle.printed_types.proofs.TextLemmas as types
use Rattle.printed_attrs.specs.AttrWords.{attr_words, items_words, more_items, dict_words, more_dict, number_words, signed_words, numbers_words, more_numbers, dialect_words, more_dialect, valued, is_unit, is_bit}

-- One level of a printed attribute

of_attr : (a : AttrTree) (y : AttrTree-F AttrTree) → out-AttrTree a ≡ y → shown a ≡ show_step (map-AttrTree AttrTree Shown shown y)
of_attr a y e = fold_out-AttrTree Shown show_step a ∙ ap (λ z. show_step (map-AttrTree AttrTree Shown shown z)) e

of_unit : shown attr.Unit ≡ show_step AttrTree-F.Unit
of_unit = of_attr attr.Unit AttrTree-F.Unit attr_parts.outs-Unit

of_integer : (v : ℤ) (t : TypeTree) → shown (attr.Int v t) ≡ show_step (AttrTree-F.Int v t)
of_integer v t = of_attr (attr.Int v t) (AttrTree-F.Int v t) (attr_parts.outs-Int v t)

of_str : (b : List ℕ) → shown (attr.Str b) ≡ show_step (AttrTree-F.Str b)
of_str b = of_attr (attr.Str b) (AttrTree-F.Str b) (attr_parts.outs-Str b)

of_list : (items : List AttrTree) → shown (attr.List items) ≡ show_step (AttrTree-F.List (map shown items))
of_list items = of_attr (attr.List items) (AttrTree-F.List items) (attr_parts.outs-List items)

of_dict : (entries : List (List ℕ × AttrTree)) → shown (attr.Dict entries) ≡ show_step (AttrTree-F.Dict (shown_entries entries))
of_dict entries = of_attr (attr.Dict entries) (AttrTree-F.Dict entries) (attr_parts.outs-Dict entries)

of_type : (t : TypeTree) → shown (attr.OfType t) ≡ show_step (AttrTree-F.OfType t)
of_type t = of_attr (attr.OfType t) (AttrTree-F.OfType t) (attr_parts.outs-OfType t)

of_symbol : (name : List ℕ) → shown (attr.Symbol name) ≡ show_step (AttrTree-F.Symbol name)
of_symbol name = of_attr (attr.Symbol name) (AttrTree-F.Symbol name) (attr_parts.outs-Symbol name)

of_ints : (w : ℕ) (ns : List ℤ) → shown (attr.Ints w ns) ≡ show_step (AttrTree-F.Ints w ns)
of_ints w ns = of_attr (attr.Ints w ns) (AttrTree-F.Ints w ns) (attr_parts.outs-Ints w ns)

of_dialect : (n : List ℕ) (ws : List (List ℕ)) → shown (attr.Dialect n ws) ≡ show_step (AttrTree-F.Dialect n ws)
of_dialect n ws = of_attr (attr.Dialect n ws) (AttrTree-F.Dialect n ws) (attr_parts.outs-Dialect n ws)

-- by one level
by_level : (gap rest text : List ℕ) (a : AttrTree) (s : Shown) → shown a ≡ s → text ≡ gap ++ (s.text ++ rest) → text ≡ gap ++ (attr_text a ++ rest)
by_level gap rest text a s e h = h ∙ ap (λ (q : Shown). gap ++ (q.text ++ rest)) (sym e)

-- whether an attribute is a unit, and a type `i1`
unit_told : (a : PlainAttr) → (shown (attr_tree a)).is_unit ≡ is_unit a
unit_told Unit = ap (λ (s : Shown). s.is_unit) of_unit
unit_told (Number v t) = ap (λ (s : Shown). s.is_unit) (of_integer v (type_tree t))
unit_told (Text b) = ap (λ (s : Shown). s.is_unit) (of_str b)
unit_told (Attrs items) = ap (λ (s : Shown). s.is_unit) (of_list (attr_trees items))
unit_told (Dict es) = ap (λ (s : Shown). s.is_unit) (of_dict (dict_tree es))
unit_told (OfType t) = ap (λ (s : Shown). s.is_unit) (of_type (type_tree t))
unit_told (Symbol n) = ap (λ (s : Shown). s.is_unit) (of_symbol n)
unit_told (Numbers w ns) = ap (λ (s : Shown). s.is_unit) (of_ints w ns)
unit_told (Dialect n ws) = ap (λ (s : Shown). s.is_unit) (of_dialect n ws)

bit_told : (t : PlainType) → printed.is_bit (type_tree t) ≡ is_bit t
bit_told (Int w) = ap is_bit_at (type_parts.outs-Int w)
bit_told Index = ap is_bit_at type_parts.outs-Index
bit_told (Memref ds e) = ap is_bit_at (type_parts.outs-Memref ds (type_tree e))
bit_told (Func is rs) = ap is_bit_at (type_parts.outs-Func (type_trees is) (type_trees rs))
bit_told Ptr = ap is_bit_at type_parts.outs-Ptr
bit_told Void = ap is_bit_at type_parts.outs-Void
bit_told (Struct ts) = ap is_bit_at (type_parts.outs-Struct (type_trees ts))
bit_told (Array n e) = ap is_bit_at (type_parts.outs-Array n (type_tree e))
bit_told (LlvmFunc o is) = ap is_bit_at (type_parts.outs-LlvmFunc (type_tree o) (type_trees is))

-- sums of texts

two : (a b t : List ℕ) → a ++ (b ++ t) ≡ (a ++ b) ++ t
two a b t = simp append_assoc

three : (a b c t : List ℕ) → a ++ (b ++ (c ++ t)) ≡ (a ++ b ++ c) ++ t
three a b c t = simp append_assoc

four : (a b c d t : List ℕ) → a ++ (b ++ (c ++ (d ++ t))) ≡ (a ++ b ++ c ++ d) ++ t
four a b c d t = simp append_assoc

-- a signed number
signed_text : (gap : List ℕ) (minus number : Place) (v : ℤ) (rest : List PrintedWord) (end : List ℕ) → text_of (signed_words gap minus number v rest) end ≡ gap ++ (signed_decimal v ++ text_of rest end)
signed_text gap minus number (pos n) rest end = refl
signed_text gap minus number (negsuc n) rest end = refl

if-text : (b : Bool) (xs ys : List PrintedWord) (end : List ℕ) → text_of (if b then xs else ys) end ≡ (if b then text_of xs end else text_of ys end)
if-text true xs ys end = refl
if-text false xs ys end = refl

-- one of two texts, by a test that two ways tell
one_of : (b c : Bool) (gap x y rest text other : List ℕ) → c ≡ b → text ≡ gap ++ (x ++ rest) → other ≡ gap ++ (y ++ rest) → (if b then text else other) ≡ gap ++ ((if c then x else y) ++ rest)
one_of true c gap x y rest text other e h k = rw e h
one_of false c gap x y rest text other e h k = rw e k

number_text : (gap : List ℕ) (v : ℤ) (t : PlainType) (rest : List PrintedWord) (end : List ℕ) → text_of (number_words gap v t rest) end ≡ gap ++ (integer_text v (type_tree t) ++ text_of rest end)
number_text gap v t rest end =
    let behind = word (codes " ") places.NumberColon kinds.Colon (codes ":") ∷ type_words false places.ElementWord (codes " ") t rest in
    let wide : text_of (signed_words gap places.IntegerMinus places.IntegerNumber v behind) end ≡ gap ++ ((signed_decimal v ++ codes " : " ++ type_text (type_tree t)) ++ text_of rest end) =
    signed_text gap places.IntegerMinus places.IntegerNumber v behind end
    ∙ ap (λ r. gap ++ (signed_decimal v ++ (codes " :" ++ r))) (types.type_text false places.ElementWord (codes " ") t rest end)
    ∙ ap (λ r. gap ++ r) (three (signed_decimal v) (codes " : ") (type_text (type_tree t)) (text_of rest end)) in
    if-text (is_bit t) (word gap places.BoolWord kinds.WordBool (bit_text v) ∷ rest) (signed_words gap places.IntegerMinus places.IntegerNumber v behind) end
    ∙ one_of (is_bit t) (printed.is_bit (type_tree t)) gap (bit_text v) (signed_decimal v ++ codes " : " ++ type_text (type_tree t)) (text_of rest end) _ _ (bit_told t) refl wide

-- lists of numbers and of words
more_numbers_text : (vs : List ℤ) (rest : List PrintedWord) (end : List ℕ) → text_of (more_numbers vs rest) end ≡ led_by (codes ", ") (map signed_decimal vs) ++ text_of rest end
more_numbers_text [] rest end = refl
more_numbers_text (v ∷ vs) rest end =
    ap (λ r. codes "," ++ r) (signed_text (codes " ") places.ListedMinus places.ListedNumber v (more_numbers vs rest) end)
    ∙ ap (λ r. codes ", " ++ (signed_decimal v ++ r)) (more_numbers_text vs rest end)
    ∙ ap (λ r. codes ", " ++ r) (two (signed_decimal v) (led_by (codes ", ") (map signed_decimal vs)) (text_of rest end))

numbers_are : (vs : List ℤ) (rest : List PrintedWord) (end : List ℕ) → text_of (numbers_words vs rest) end ≡ numbers_text vs ++ text_of rest end
numbers_are [] rest end = refl
numbers_are (v ∷ vs) rest end =
    ap (λ r. codes ":" ++ r) (signed_text (codes " ") places.ListedMinus places.ListedNumber v (more_numbers vs rest) end)
    ∙ ap (λ r. codes ": " ++ (signed_decimal v ++ r)) (more_numbers_text vs rest end)
    ∙ ap (λ r. codes ": " ++ r) (two (signed_decimal v) (led_by (codes ", ") (map signed_decimal vs)) (text_of rest end))

more_dialect_text : (ws : List (List ℕ)) (rest : List PrintedWord) (end : List ℕ) → text_of (more_dialect ws rest) end ≡ led_by (codes ", ") ws ++ text_of rest end
more_dialect_text [] rest end = refl
more_dialect_text (w ∷ ws) rest end =
    ap (λ r. codes ", " ++ (w ++ r)) (more_dialect_text ws rest end) ∙ ap (λ r. codes ", " ++ r) (two w (led_by (codes ", ") ws) (text_of rest end))

dialect_text : (ws : List (List ℕ)) (rest : List PrintedWord) (end : List ℕ) → text_of (dialect_words ws rest) end ≡ words_text ws ++ text_of rest end
dialect_text [] rest end = refl
dialect_text (w ∷ ws) rest end =
    ap (λ r. codes "<" ++ (w ++ r)) (more_dialect_text ws (sign places.DialectGreater kinds.Greater (codes ">") ∷ rest) end)
    ∙ ap (λ r. codes "<" ++ r) (dialect_form w (led_by (codes ", ") ws) (codes ">") (text_of rest end))
  where
    dialect_form : (w l g t : List ℕ) → w ++ (l ++ (g ++ t)) ≡ ((w ++ l) ++ g) ++ t
    dialect_form w l g t = simp append_assoc

-- an entry
valued_text : (b c : Bool) (name x rest : List ℕ) (behind value : List PrintedWord) (end : List ℕ) → c ≡ b → text_of behind end ≡ rest → text_of value end ≡ codes " " ++ (x ++ rest)
    → name ++ text_of (valued b behind value) end ≡ (name ++ value_text c x) ++ rest
valued_text true c name x rest behind value end e h k = rw (e, h) (two name [] rest)
valued_text false c name x rest behind value end e h k = rw (e, k) (two name (codes " = " ++ x) rest)

abbrev texts : PlainAttrs → List (List ℕ)
texts items = map (λ (s : Shown). s.text) (map shown (attr_trees items))

abbrev entries : PlainDict → List (List ℕ)
entries d = map entry_text (shown_entries (dict_tree d))

mutual
  pub attr_is : (gap : List ℕ) (a : PlainAttr) (rest : List PrintedWord) (end : List ℕ) → text_of (attr_words gap a rest) end ≡ gap ++ (attr_text (attr_tree a) ++ text_of rest end)
  attr_is gap Unit rest end = by_level gap (text_of rest end) _ attr.Unit (show_step AttrTree-F.Unit) of_unit refl
  attr_is gap (Number v t) rest end = by_level gap (text_of rest end) _ (attr.Int v (type_tree t)) (show_step (AttrTree-F.Int v (type_tree t))) (of_integer v (type_tree t)) (number_text gap v t rest end)
  attr_is gap (Text bytes) rest end = by_level gap (text_of rest end) _ (attr.Str bytes) (show_step (AttrTree-F.Str bytes)) (of_str bytes) refl
  attr_is gap (Attrs attrs) rest end =
      by_level gap (text_of rest end) _ (attr.List (attr_trees attrs)) (show_step (AttrTree-F.List (map shown (attr_trees attrs)))) (of_list (attr_trees attrs))
      (ap (λ r. gap ++ (codes "[" ++ r)) (items_are attrs (sign places.ItemsClose kinds.CloseSquare (codes "]") ∷ rest) end)
      ∙ ap (λ r. gap ++ r) (three (codes "[") (joined (codes ", ") (texts attrs)) (codes "]") (text_of rest end)))
  attr_is gap (Dict d) rest end =
      by_level gap (text_of rest end) _ (attr.Dict (dict_tree d)) (show_step (AttrTree-F.Dict (shown_entries (dict_tree d)))) (of_dict (dict_tree d))
      (ap (λ r. gap ++ (codes "{" ++ r)) (dict_is d (sign places.AttrDictClose kinds.CloseBrace (codes "}") ∷ rest) end)
      ∙ ap (λ r. gap ++ r) (three (codes "{") (dict_text (dict_tree d)) (codes "}") (text_of rest end)))
  attr_is gap (OfType t) rest end = by_level gap (text_of rest end) _ (attr.OfType (type_tree t)) (show_step (AttrTree-F.OfType (type_tree t))) (of_type (type_tree t)) (types.type_text false places.IntegerWord gap t rest end)
  attr_is gap (Symbol name) rest end = by_level gap (text_of rest end) _ (attr.Symbol name) (show_step (AttrTree-F.Symbol name)) (of_symbol name) refl
  attr_is gap (Numbers width values) rest end =
      by_level gap (text_of rest end) _ (attr.Ints width values) (show_step (AttrTree-F.Ints width values)) (of_ints width values)
      (ap (λ r. gap ++ (codes "array<i" ++ (decimal width ++ r))) (numbers_are values (sign places.NumbersGreater kinds.Greater (codes ">") ∷ rest) end)
      ∙ ap (λ r. gap ++ r) (four (codes "array<i") (decimal width) (numbers_text values) (codes ">") (text_of rest end)))
  attr_is gap (Dialect name words) rest end =
      by_level gap (text_of rest end) _ (attr.Dialect name words) (show_step (AttrTree-F.Dialect name words)) (of_dialect name words)
      (ap (λ r. gap ++ (codes "#" ++ (name ++ r))) (dialect_text words rest end) ∙ ap (λ r. gap ++ r) (three (codes "#") name (words_text words) (text_of rest end)))

  pub items_are : (items : PlainAttrs) (rest : List PrintedWord) (end : List ℕ) → text_of (items_words items rest) end ≡ joined (codes ", ") (texts items) ++ text_of rest end
  items_are end_of_attrs rest end = refl
  items_are (more_attrs a more) rest end =
      attr_is [] a (more_items more rest) end ∙ ap (λ r. attr_text (attr_tree a) ++ r) (more_items_are more rest end)
      ∙ two (attr_text (attr_tree a)) (led_by (codes ", ") (texts more)) (text_of rest end)

  pub more_items_are : (items : PlainAttrs) (rest : List PrintedWord) (end : List ℕ) → text_of (more_items items rest) end ≡ led_by (codes ", ") (texts items) ++ text_of rest end
  more_items_are end_of_attrs rest end = refl
  more_items_are (more_attrs a more) rest end =
      ap (λ r. codes "," ++ r) (attr_is (codes " ") a (more_items more rest) end)
      ∙ ap (λ r. codes ", " ++ (attr_text (attr_tree a) ++ r)) (more_items_are more rest end)
      ∙ ap (λ r. codes ", " ++ r) (two (attr_text (attr_tree a)) (led_by (codes ", ") (texts more)) (text_of rest end))

  pub dict_is : (d : PlainDict) (rest : List PrintedWord) (end : List ℕ) → text_of (dict_words d rest) end ≡ dict_text (dict_tree d) ++ text_of rest end
  dict_is end_of_entries rest end = refl
  dict_is (more_entries name a more) rest end =
      valued_text (is_unit a) (shown (attr_tree a)).is_unit (name_text name) (attr_text (attr_tree a)) (led_by (codes ", ") (entries more) ++ text_of rest end) (more_dict more rest) (attr_words (codes " ") a (more_dict more rest)) end
      (unit_told a) (more_dict_is more rest end) (attr_is (codes " ") a (more_dict more rest) end ∙ ap (λ r. codes " " ++ (attr_text (attr_tree a) ++ r)) (more_dict_is more rest end))
      ∙ two (entry_text (name, shown (attr_tree a))) (led_by (codes ", ") (entries more)) (text_of rest end)

  pub more_dict_is : (d : PlainDict) (rest : List PrintedWord) (end : List ℕ) → text_of (more_dict d rest) end ≡ led_by (codes ", ") (entries d) ++ text_of rest end
  more_dict_is end_of_entries rest end = refl
  more_dict_is (more_entries name a more) rest end =
      ap (λ r. codes ", " ++ r) (valued_text (is_unit a) (shown (attr_tree a)).is_unit (name_text name) (attr_text (attr_tree a)) (led_by (codes ", ") (entries more) ++ text_of rest end) (more_dict more rest) (attr_words (codes " ") a (more_dict more rest)) end
      (unit_told a) (more_dict_is more rest end) (attr_is (codes " ") a (more_dict more rest) end ∙ ap (λ r. codes " " ++ (attr_text (attr_tree a) ++ r)) (more_dict_is more rest end))
      ∙ two (entry_text (name, shown (attr_tree a))) (led_by (codes ", ") (entries more)) (text_of rest end))
