-- Attributes whose dictionaries stand in the order of their names, and words that take nothing from what stands before them.
use Rattle.std.specs.Prelude.{◌≡◌, ℕ, Bool, true, not, ◌&&◌, List, [], ◌∷◌, Option, Some, None}
use Rattle.plain_tree.specs.Attrs.{PlainAttr, PlainAttrs, PlainDict, Attrs, Dict, end_of_attrs, more_attrs, end_of_entries, more_entries}
use Rattle.text_grammar.specs.declared.places.Place.{Place}
use Rattle.term_table.specs.declared.node.Form.TheVariants as forms
use Rattle.text_types.specs.declared.action.Action.TheVariants.{Put}
use Rattle.text_types.specs.Actions.{dialect_of, value_of}
use Rattle.event_trees.specs.Dictionaries.{before}
use Rattle.printed_words.specs.Words.{PrintedWord}

-- the next name doesn't come before this one
abbrev pub is_next : List ℕ → PlainDict → Bool
is_next name end_of_entries = true
is_next name (more_entries other a more) = not (before other name)

abbrev mutual
  pub is_ordered : PlainAttr → Bool
  is_ordered (Attrs attrs) = are_ordered attrs
  is_ordered (Dict d) = is_ordered_dict d
  is_ordered _ = true

  pub are_ordered : PlainAttrs → Bool
  are_ordered end_of_attrs = true
  are_ordered (more_attrs a more) = is_ordered a && are_ordered more

  pub is_ordered_dict : PlainDict → Bool
  is_ordered_dict end_of_entries = true
  is_ordered_dict (more_entries name a more) = is_next name more && (is_ordered a && is_ordered_dict more)

-- the place of the first word
abbrev pub first_place : List PrintedWord → Option Place
first_place [] = None
first_place (w ∷ ws) = Some w.place

-- the words begin neither with the words of a dialect attribute nor with the `=` of an entry
pub record IsQuiet (ws : List PrintedWord) : Type 0 where
  pub dialect : (name : ℕ) → dialect_of name (first_place ws) ≡ Put forms.Dialect name
  pub value : value_of (first_place ws) ≡ Put forms.Unit 0
