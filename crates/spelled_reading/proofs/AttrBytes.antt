-- The attribute of each term has names and strings of bytes.
use Rattle.std.proofs.Common.{◌≡◌, ℕ, ◌&&◌, Bool, true, not, List, [], ◌∷◌, ◌++◌, drop, map, refl, ap, ◌∙◌}
use Rattle.std.specs.Prelude.{nat_lt}
use Rattle.std.specs.List.{filter, list_all}
use Rattle.mlir_lex.proofs.Lengths.{and-both, and-left, and-right}
use Rattle.plain_tree.specs.Attrs.{attrs_in, dict_in, plain_attr, plain_entries}
use Rattle.plain_tree.proofs.AttrOpens.{plain_entry, plain-Unit, plain-Int, plain-Str, plain-List, plain-Dict, plain-OfType, plain-Symbol, plain-Ints, plain-Dialect}
use Rattle.term_table.specs.declared.node.Form.TheVariants as forms
use Rattle.term_table.specs.Terms.{Term, node}
use Rattle.event_trees.specs.Wording.{Wording}
use Rattle.event_trees.specs.Dictionaries.{Entry, attrs_of, belongs, props_of, sorted}
use Rattle.event_trees.specs.Attrs.{attr_of, entries_of, items_of, minus_of, words_of, written_of}
use Rattle.printed_attrs.specs.Readable.{are_bytes}
use Rattle.settled_reading.proofs.Sorted.{all_joined, all_kept, all_sorted}
use Rattle.spelled_reading.specs.Bytes.{are_in_bytes, in_bytes, is_dict_in_bytes, is_kind_in_bytes}

-- names spell bytes
abbrev pub Spelled : Wording → Type 0
Spelled words = (name : ℕ) → are_bytes (words.spelled name) ≡ true

abbrev entry_bytes : Entry → Bool
entry_bytes e = are_bytes e.0 && in_bytes (plain_attr e.1)

dict_bytes : (es : List Entry) → list_all entry_bytes es ≡ true → is_dict_in_bytes (dict_in (plain_entries es)) ≡ true
dict_bytes [] h = refl
dict_bytes (e ∷ es) h = and-both _ _ (and-left _ _ h) (dict_bytes es (and-right (entry_bytes e) _ h))

entries_same : (es : List Entry) → map plain_entry es ≡ plain_entries es
entries_same [] = refl
entries_same (e ∷ es) = ap (λ x. (e.0, plain_attr e.1) ∷ x) (entries_same es)

without_first : (bs : List ℕ) → are_bytes bs ≡ true → are_bytes (drop 1 bs) ≡ true
without_first [] h = refl
without_first (b ∷ bs) h = and-right (nat_lt b 256) _ h

module _ (words : Wording) (spell : Spelled words) where
  minus_bytes : (t : Term) → in_bytes (plain_attr (minus_of words t)) ≡ true
  minus_bytes (node forms.Number name t right) = ap in_bytes (plain-Int _ _)
  minus_bytes _ = ap in_bytes plain-Unit

  words_bytes : (t : Term) → list_all are_bytes (words_of words t) ≡ true
  words_bytes (node forms.DialectWord name more right) = and-both _ _ (spell name) (words_bytes more)
  words_bytes _ = refl

  mutual
    attr_bytes : (t : Term) → in_bytes (plain_attr (attr_of words t)) ≡ true
    attr_bytes (node forms.Unit value left right) = ap in_bytes plain-Unit
    attr_bytes (node forms.Number value left right) = ap in_bytes (plain-Int _ _)
    attr_bytes (node forms.Minus value left right) = minus_bytes left
    attr_bytes (node forms.Bool value left right) = ap in_bytes (plain-Int _ _)
    attr_bytes (node forms.Text value left right) = ap in_bytes (plain-Str _) ∙ spell value
    attr_bytes (node forms.Items value left right) = ap in_bytes (plain-List (items_of words left)) ∙ items_bytes left
    attr_bytes (node forms.Dict value left right) =
        ap in_bytes (plain-Dict (sorted (entries_of words left))) ∙ ap (λ es. is_dict_in_bytes (dict_in es)) (entries_same (sorted (entries_of words left)))
        ∙ dict_bytes (sorted (entries_of words left)) (all_sorted entry_bytes (entries_of words left) (entries_bytes left))
    attr_bytes (node forms.Symbol value left right) = ap in_bytes (plain-Symbol _) ∙ spell value
    attr_bytes (node forms.Numbers value left right) = ap in_bytes (plain-Ints _ _)
    attr_bytes (node forms.Dialect value left right) = ap in_bytes (plain-Dialect _ _) ∙ and-both _ _ (without_first (words.spelled value) (spell value)) (words_bytes left)
    attr_bytes _ = ap in_bytes (plain-OfType _)

    items_bytes : (t : Term) → are_in_bytes (attrs_in (map plain_attr (items_of words t))) ≡ true
    items_bytes (node forms.Item value first more) = and-both _ _ (attr_bytes first) (items_bytes more)
    items_bytes _ = refl

    entries_bytes : (t : Term) → list_all entry_bytes (entries_of words t) ≡ true
    entries_bytes (node forms.Entry name value more) = and-both _ _ (and-both _ _ (spell name) (attr_bytes value)) (entries_bytes more)
    entries_bytes _ = refl

  written_bytes : (t : Term) → list_all entry_bytes (written_of words t) ≡ true
  written_bytes (node forms.Dict value entries right) = entries_bytes entries
  written_bytes _ = refl

  -- the name and the dictionaries of an operation that is read
  pub kind_bytes : (name : List ℕ) (props attrs : Term) → are_bytes name ≡ true
      → is_kind_in_bytes (record { name = name; props = plain_entries (props_of name (written_of words props) (written_of words attrs)); attrs = plain_entries (attrs_of name (written_of words attrs)) }) ≡ true
  kind_bytes name props attrs h =
      and-both _ _ h (and-both _ _
      (dict_bytes (sorted (written_of words props ++ filter (belongs name) (written_of words attrs)))
      (all_sorted entry_bytes (written_of words props ++ filter (belongs name) (written_of words attrs))
      (all_joined entry_bytes (written_of words props) (filter (belongs name) (written_of words attrs)) (written_bytes props) (all_kept (belongs name) entry_bytes (written_of words attrs) (written_bytes attrs)))))
      (dict_bytes (sorted (filter (λ e. not (belongs name e)) (written_of words attrs)))
      (all_sorted entry_bytes (filter (λ e. not (belongs name e)) (written_of words attrs)) (all_kept (λ e. not (belongs name e)) entry_bytes (written_of words attrs) (written_bytes attrs)))))
