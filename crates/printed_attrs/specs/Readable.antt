-- Which attributes a text can have.
use Rattle.std.specs.Prelude.{ℕ, Bool, true, false, ◌&&◌, ◌||◌, List, nat_lt}
use Rattle.std.specs.List.{list_all}
use Rattle.mlir_lex.specs.Bytes.{is_bare, is_word, starts_suffix, is_suffix_byte}
use Rattle.plain_tree.specs.Attrs.{PlainAttr, PlainAttrs, PlainDict, Unit, Number, Text, Attrs, Dict, OfType, Symbol, Numbers, Dialect, end_of_attrs, more_attrs, end_of_entries, more_entries}
use Rattle.rule_model.specs.Formed.{is_formed_type, is_number_of, is_signed}
use Rattle.text_grammar.specs.TokenKinds.{has_dot}
use Rattle.printed_types.specs.TypeWords.{is_byte_width}
use Rattle.printed_attrs.specs.AttrWords.{is_unit}

abbrev pub are_bytes : List ℕ → Bool
are_bytes bytes = list_all (λ b. nat_lt b 256) bytes

-- a name behind `#`: with a dot, and no number
abbrev pub is_dialect_name : List ℕ → Bool
is_dialect_name name = is_word starts_suffix is_suffix_byte name && has_dot name

abbrev mutual
  -- types are formed, numbers in the range of their types, strings of bytes, names of dialects have a dot and their words are bare identifiers; a unit is no attribute by itself
  pub is_readable : PlainAttr → Bool
  is_readable Unit = false
  is_readable (Number value t) = is_formed_type t && is_number_of t value
  is_readable (Text bytes) = are_bytes bytes
  is_readable (Attrs attrs) = are_readable attrs
  is_readable (Dict entries) = is_readable_dict entries
  is_readable (OfType t) = is_formed_type t
  is_readable (Symbol name) = are_bytes name
  is_readable (Numbers width values) = is_byte_width width && list_all (is_signed width) values
  is_readable (Dialect name words) = is_dialect_name name && list_all is_bare words

  pub are_readable : PlainAttrs → Bool
  are_readable end_of_attrs = true
  are_readable (more_attrs a more) = is_readable a && are_readable more

  -- names are of bytes, and values attributes or units
  pub is_readable_dict : PlainDict → Bool
  is_readable_dict end_of_entries = true
  is_readable_dict (more_entries name a more) = are_bytes name && ((is_unit a || is_readable a) && is_readable_dict more)
