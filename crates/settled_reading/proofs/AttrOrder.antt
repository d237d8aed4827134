-- The attribute of each term has its dictionaries in order.
use Rattle.std.proofs.Common.{◌≡◌, ℕ, true, not, List, [], ◌∷◌, map, refl, ap, ◌∙◌}
use Rattle.std.specs.List.{filter, list_all}
use Rattle.mlir_lex.proofs.Lengths.{and-both, and-left, and-right}
use Rattle.plain_tree.specs.Attrs.{attrs_in, dict_in, plain_attr, plain_entries}
use Rattle.plain_tree.proofs.AttrOpens.{plain_entry, plain-Unit, plain-Int, plain-Str, plain-List, plain-Dict, plain-OfType, plain-Symbol, plain-Ints, plain-Dialect}
use Rattle.term_table.specs.declared.node.Form.TheVariants as forms
use Rattle.term_table.specs.Terms.{Term, node}
use Rattle.op_catalog.specs.Table.{shape_of}
use Rattle.event_trees.specs.Wording.{Wording}
use Rattle.event_trees.specs.Dictionaries.{Entry, attrs_of, belongs, listed, props_of, sorted}
use Rattle.event_trees.specs.Attrs.{attr_of, entries_of, items_of, minus_of, written_of}
use Rattle.printed_terms.specs.Ordered.{are_ordered, is_ordered, is_ordered_dict}
use Rattle.printed_trees.specs.Settled.{are_own, is_settled_kind}
use Rattle.settled_reading.proofs.Sorted.{all_joined, all_kept, all_pass, all_sorted, sorted_rises, value_ordered}

entries_same : (es : List Entry) → map plain_entry es ≡ plain_entries es
entries_same [] = refl
entries_same (e ∷ es) = ap (λ x. (e.0, plain_attr e.1) ∷ x) (entries_same es)

module _ (words : Wording) where
  minus_ordered : (t : Term) → is_ordered (plain_attr (minus_of words t)) ≡ true
  minus_ordered (node forms.Number name t right) = ap is_ordered (plain-Int _ _)
  minus_ordered _ = ap is_ordered plain-Unit

  mutual
    attr_ordered : (t : Term) → is_ordered (plain_attr (attr_of words t)) ≡ true
    attr_ordered (node forms.Unit value left right) = ap is_ordered plain-Unit
    attr_ordered (node forms.Number value left right) = ap is_ordered (plain-Int _ _)
    attr_ordered (node forms.Minus value left right) = minus_ordered left
    attr_ordered (node forms.Bool value left right) = ap is_ordered (plain-Int _ _)
    attr_ordered (node forms.Text value left right) = ap is_ordered (plain-Str _)
    attr_ordered (node forms.Items value left right) = ap is_ordered (plain-List (items_of words left)) ∙ items_ordered left
    attr_ordered (node forms.Dict value left right) =
        ap is_ordered (plain-Dict (sorted (entries_of words left))) ∙ ap (λ es. is_ordered_dict (dict_in es)) (entries_same (sorted (entries_of words left))) ∙ sorted_rises (entries_of words left) (entries_ordered left)
    attr_ordered (node forms.Symbol value left right) = ap is_ordered (plain-Symbol _)
    attr_ordered (node forms.Numbers value left right) = ap is_ordered (plain-Ints _ _)
    attr_ordered (node forms.Dialect value left right) = ap is_ordered (plain-Dialect _ _)
    attr_ordered _ = ap is_ordered (plain-OfType _)

    items_ordered : (t : Term) → are_ordered (attrs_in (map plain_attr (items_of words t))) ≡ true
    items_ordered (node forms.Item value first more) = and-both _ _ (attr_ordered first) (items_ordered more)
    items_ordered _ = refl

    entries_ordered : (t : Term) → list_all value_ordered (entries_of words t) ≡ true
    entries_ordered (node forms.Entry name value more) = and-both _ _ (attr_ordered value) (entries_ordered more)
    entries_ordered _ = refl

  written_ordered : (t : Term) → list_all value_ordered (written_of words t) ≡ true
  written_ordered (node forms.Dict value entries right) = entries_ordered entries
  written_ordered _ = refl

  own_entries : (name : List ℕ) (es : List Entry) → list_all (λ e. not (listed (shape_of name) e.0)) es ≡ true → are_own name (plain_entries es) ≡ true
  own_entries name [] h = refl
  own_entries name (e ∷ es) h = and-both _ _ (and-left _ _ h) (own_entries name es (and-right (not (listed (shape_of name) e.0)) _ h))

  -- the dictionaries of an operation that is read
  pub kind_settled : (name : List ℕ) (props attrs : Term)
      → is_settled_kind (record { name = name; props = plain_entries (props_of name (written_of words props) (written_of words attrs)); attrs = plain_entries (attrs_of name (written_of words attrs)) }) ≡ true
  kind_settled name props attrs =
      and-both _ _ (sorted_rises _ (all_joined value_ordered (written_of words props) (filter (belongs name) (written_of words attrs)) (written_ordered props) (all_kept (belongs name) value_ordered (written_of words attrs) (written_ordered attrs))))
      (and-both _ _ (sorted_rises _ (all_kept (λ e. not (belongs name e)) value_ordered (written_of words attrs) (written_ordered attrs)))
      (own_entries name _ (all_sorted (λ e. not (belongs name e)) _ (all_pass (λ e. not (belongs name e)) (written_of words attrs)))))
