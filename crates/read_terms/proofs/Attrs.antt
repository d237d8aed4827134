-- The attribute of each term that is fine has formed types and numbers that fit.
use Rattle.std.proofs.Common.{◌≡◌, ℕ, ◌+◌, ◌<◌, ◌&&◌, Bool, true, false, List, [], ◌∷◌, ◌++◌, map, refl, ap, ◌∙◌, arith}
use Rattle.std.specs.Prelude.{nat_lt, ℤ, not}
use Rattle.std.specs.List.{filter, list_all}
use Rattle.std.proofs.lemmas.Bool.Decides.{nat_tests}
use Rattle.mlir_lex.proofs.Lengths.{and-both, and-left, and-right}
use Rattle.tree_model.specs.declared.attr_tree.AttrTree as attr
use Rattle.plain_tree.specs.Types.{Int, PlainType, PlainTypes, more_types, end_of_types, plain_type, type_tree, type_trees}
use Rattle.plain_tree.specs.Attrs.{attrs_in, dict_in, plain_attr, plain_entries}
use Rattle.plain_tree.specs.Ops.{plain_values}
use Rattle.plain_tree.proofs.TypeOpens.{plain_again}
use Rattle.plain_tree.proofs.AttrOpens.{plain_entry, plain-Unit, plain-Int, plain-Str, plain-List, plain-Dict, plain-OfType, plain-Symbol, plain-Ints, plain-Dialect}
use Rattle.term_table.specs.declared.node.Form.TheVariants as forms
use Rattle.term_table.specs.Terms.{Term, node}
use Rattle.text_types.specs.Plain.{type_of, types_of}
use Rattle.rule_model.specs.Formed.{are_formed_types, are_formed_values, is_formed_type, is_number_of}
use Rattle.event_trees.specs.Wording.{Wording}
use Rattle.event_trees.specs.Dictionaries.{Entry, attrs_of, belongs, props_of, sorted}
use Rattle.event_trees.specs.Attrs.{attr_of, bits_of, entries_of, integer_type, items_of, minus_of, negative, signed, truth, written_of}
use Rattle.event_trees.specs.Levels.{numbered, result_types}
use Rattle.read_terms.specs.Fitting.{are_fit_attrs, are_fit_entries, is_fit_attr, is_fit_dict, is_fit_here}
use Rattle.read_terms.proofs.Terms.{all_formed, fine, is_fit_minus, is_number_type, type_formed}
use Rattle.read_terms.proofs.Signed.{array_fits, minus_fits, number_fits}
use Rattle.read_terms.proofs.Entries.{all_joined, all_kept, all_sorted}

-- an entry with its attribute
abbrev entry_fit : Entry → Bool
entry_fit e = is_fit_attr (plain_attr e.1)

dict_fit : (es : List Entry) → list_all entry_fit es ≡ true → is_fit_dict (dict_in (plain_entries es)) ≡ true
dict_fit [] h = refl
dict_fit (e ∷ es) h = and-both _ _ (and-left _ _ h) (dict_fit es (and-right (entry_fit e) _ h))

entries_fit : (es : List Entry) → list_all entry_fit es ≡ true → are_fit_entries (plain_entries es) ≡ true
entries_fit [] h = refl
entries_fit (e ∷ es) h = and-both _ _ (and-left _ _ h) (entries_fit es (and-right (entry_fit e) _ h))

entries_same : (es : List Entry) → map plain_entry es ≡ plain_entries es
entries_same [] = refl
entries_same (e ∷ es) = ap (λ x. (e.0, plain_attr e.1) ∷ x) (entries_same es)

number_attr : (z : ℤ) (t : PlainType) → (is_formed_type t && is_number_of t z) ≡ true → is_fit_attr (plain_attr (attr.Int z (type_tree t))) ≡ true
number_attr z t h = ap is_fit_attr (plain-Int z (type_tree t)) ∙ ap (λ u. is_formed_type u && is_number_of u z) (plain_again t) ∙ h

module _ (words : Wording) where
  abbrev Fine : Term → Type 0
  Fine t = fine words.number t ≡ true

  minus_attr : (t : Term) → is_fit_minus words.number t ≡ true → is_fit_attr (plain_attr (minus_of words t)) ≡ true
  minus_attr (node forms.Number name t right) h = number_attr (negative (words.number name)) (integer_type t) (minus_fits (words.number name) t (and-left _ _ h) (and-right (is_number_type t) _ h))
  minus_attr _ h = ap is_fit_attr plain-Unit

  truth_attr : (b : Bool) → is_fit_attr (plain_attr (truth b)) ≡ true
  truth_attr true = number_attr _ (Int 1) refl
  truth_attr false = number_attr _ (Int 1) refl

  type_attr : (t : Term) → Fine t → is_fit_attr (plain_attr (attr.OfType (type_tree (type_of t)))) ≡ true
  type_attr t h = ap is_fit_attr (plain-OfType (type_tree (type_of t))) ∙ ap is_formed_type (plain_again (type_of t)) ∙ type_formed words.number t h

  positive : (n : ℕ) → nat_lt 0 n ≡ true → 0 < n
  positive n h = grind (arith, nat_tests)

  mutual
    attr_fit : (t : Term) → Fine t → is_fit_attr (plain_attr (attr_of words t)) ≡ true
    attr_fit (node forms.Unit value left right) h = ap is_fit_attr plain-Unit
    attr_fit (node forms.Number name t right) h = number_attr (signed (bits_of t) (words.number name)) (integer_type t) (number_fits (words.number name) t (and-left _ _ h) (and-right (is_number_type t) _ h))
    attr_fit (node forms.Minus value left right) h = minus_attr left h
    attr_fit (node forms.Bool value left right) h = truth_attr _
    attr_fit (node forms.Text value left right) h = ap is_fit_attr (plain-Str _)
    attr_fit (node forms.Items value left right) h = ap is_fit_attr (plain-List (items_of words left)) ∙ items_fit left (and-left _ _ h)
    attr_fit (node forms.Dict value left right) h =
        ap is_fit_attr (plain-Dict (sorted (entries_of words left))) ∙ ap (λ es. is_fit_dict (dict_in es)) (entries_same (sorted (entries_of words left)))
        ∙ dict_fit (sorted (entries_of words left)) (all_sorted entry_fit (entries_of words left) (all_entries_fit left (and-left _ _ h)))
    attr_fit (node forms.Symbol value left right) h = ap is_fit_attr (plain-Symbol _)
    attr_fit (node forms.Numbers bits ns right) h = ap is_fit_attr (plain-Ints _ _) ∙ array_fits words bits ns (positive bits (and-left _ _ h)) (and-right (nat_lt 0 bits) _ h)
    attr_fit (node forms.Dialect value left right) h = ap is_fit_attr (plain-Dialect _ _)
    attr_fit t h = type_attr t h

    items_fit : (t : Term) → Fine t → are_fit_attrs (attrs_in (map plain_attr (items_of words t))) ≡ true
    items_fit (node forms.Item value first more) h = and-both _ _ (attr_fit first (and-left _ _ h)) (items_fit more (and-right (fine words.number first) _ h))
    items_fit _ h = refl

    all_entries_fit : (t : Term) → Fine t → list_all entry_fit (entries_of words t) ≡ true
    all_entries_fit (node forms.Entry name value more) h = and-both _ _ (attr_fit value (and-left _ _ h)) (all_entries_fit more (and-right (fine words.number value) _ h))
    all_entries_fit _ h = refl

  written_fit : (t : Term) → Fine t → list_all entry_fit (written_of words t) ≡ true
  written_fit (node forms.Dict value entries right) h = all_entries_fit entries (and-left _ _ h)
  written_fit _ h = refl

  types_values : (n : ℕ) (ts : PlainTypes) → are_formed_types ts ≡ true → are_formed_values (plain_values (numbered n (type_trees ts))) ≡ true
  types_values n end_of_types h = refl
  types_values n (more_types t ts) h = and-both _ _ (ap is_formed_type (plain_again t) ∙ and-left _ _ h) (types_values (n + 1) ts (and-right (is_formed_type t) _ h))

  results_fit : (n : ℕ) (t : Term) → Fine t → are_formed_values (plain_values (numbered n (result_types t))) ≡ true
  results_fit n (node forms.Func value inputs results) h = types_values n (types_of results) (all_formed words.number results (and-right (fine words.number inputs) _ h))
  results_fit n _ h = refl

  -- an argument of a block
  pub arg_fit : (t : Term) → Fine t → is_formed_type (plain_type (type_tree (type_of t))) ≡ true
  arg_fit t h = ap is_formed_type (plain_again (type_of t)) ∙ type_formed words.number t h

  -- an operation that is read
  pub here_fit : (name : List ℕ) (number : ℕ) (props attrs signature : Term) → Fine props → Fine attrs → Fine signature
      → is_fit_here (record { name = name; props = plain_entries (props_of name (written_of words props) (written_of words attrs)); attrs = plain_entries (attrs_of name (written_of words attrs)) })
      (plain_values (numbered number (result_types signature))) ≡ true
  here_fit name number props attrs signature p a s =
      and-both _ _ (results_fit number signature s) (and-both _ _
      (entries_fit (sorted (written_of words props ++ filter (belongs name) (written_of words attrs)))
      (all_sorted entry_fit (written_of words props ++ filter (belongs name) (written_of words attrs))
      (all_joined entry_fit (written_of words props) (filter (belongs name) (written_of words attrs)) (written_fit props p) (all_kept (belongs name) entry_fit (written_of words attrs) (written_fit attrs a)))))
      (entries_fit (sorted (filter (λ e. not (belongs name e)) (written_of words attrs)))
      (all_sorted entry_fit (filter (λ e. not (belongs name e)) (written_of words attrs)) (all_kept (λ e. not (belongs name e)) entry_fit (written_of words attrs) (written_fit attrs a)))))
