-- Modules of which all names and strings are of bytes.
use Rattle.std.specs.Prelude.{◌≡◌, ℕ, Bool, true, ◌&&◌, List}
use Rattle.std.specs.List.{list_all}
use Rattle.plain_tree.specs.Attrs.{PlainAttr, PlainAttrs, PlainDict, Text, Attrs, Dict, Symbol, Dialect, end_of_attrs, more_attrs, end_of_entries, more_entries, dict_in}
use Rattle.plain_tree.specs.Ops.{Kind, Op, op, Ops, end_of_ops, more_ops, Regions, end_of_regions, region, Blocks, end_of_blocks, block, PlainModule, plain_module}
use Rattle.text_grammar.specs.declared.words.Word.{Word}
use Rattle.text_events.specs.declared.event.Event.{Event}
use Rattle.text_events.specs.Source.{spelled_of}
use Rattle.text_types.specs.Spelling.{Spelling}
use Rattle.text_scopes.specs.declared.bodies.Class.{Class}
use Rattle.event_trees.specs.Wording.{Wording}
use Rattle.event_trees.specs.Modules.{denoted}
use Rattle.printed_attrs.specs.Readable.{are_bytes}

abbrev mutual
  pub in_bytes : PlainAttr → Bool
  in_bytes (Text bytes) = are_bytes bytes
  in_bytes (Attrs attrs) = are_in_bytes attrs
  in_bytes (Dict entries) = is_dict_in_bytes entries
  in_bytes (Symbol name) = are_bytes name
  in_bytes (Dialect name words) = are_bytes name && list_all are_bytes words
  in_bytes _ = true

  pub are_in_bytes : PlainAttrs → Bool
  are_in_bytes end_of_attrs = true
  are_in_bytes (more_attrs a more) = in_bytes a && are_in_bytes more

  pub is_dict_in_bytes : PlainDict → Bool
  is_dict_in_bytes end_of_entries = true
  is_dict_in_bytes (more_entries name a more) = (are_bytes name && in_bytes a) && is_dict_in_bytes more

abbrev pub is_kind_in_bytes : Kind → Bool
is_kind_in_bytes k = are_bytes k.name && (is_dict_in_bytes (dict_in k.props) && is_dict_in_bytes (dict_in k.attrs))

abbrev mutual
  pub is_op_in_bytes : Op → Bool
  is_op_in_bytes (op k results operands regions successors) = is_kind_in_bytes k && are_regions_in_bytes regions

  pub are_ops_in_bytes : Ops → Bool
  are_ops_in_bytes end_of_ops = true
  are_ops_in_bytes (more_ops o os) = is_op_in_bytes o && are_ops_in_bytes os

  pub are_regions_in_bytes : Regions → Bool
  are_regions_in_bytes end_of_regions = true
  are_regions_in_bytes (region blocks more) = are_blocks_in_bytes blocks && are_regions_in_bytes more

  pub are_blocks_in_bytes : Blocks → Bool
  are_blocks_in_bytes end_of_blocks = true
  are_blocks_in_bytes (block label args ops more) = are_ops_in_bytes ops && are_blocks_in_bytes more

abbrev pub is_module_in_bytes : PlainModule → Bool
is_module_in_bytes m = (is_dict_in_bytes (dict_in m.props) && is_dict_in_bytes (dict_in m.attrs)) && list_all is_op_in_bytes m.funcs

-- Laws

abbrev pub WordsAreInBytes : Type 0
WordsAreInBytes = (text : List ℕ) (words : List Word) (name : ℕ) → are_bytes text ≡ true → are_bytes (spelled_of text words name) ≡ true

abbrev pub ReadIsInBytes : Type 0
ReadIsInBytes = (words : Spelling) (wording : Wording) (class : ℕ → Class) (es : List Event) → ((name : ℕ) → are_bytes (wording.spelled name) ≡ true) → is_module_in_bytes (plain_module (denoted words wording class es)) ≡ true
