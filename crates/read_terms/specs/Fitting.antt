-- Modules of which each type is formed, and each number is one of its type.
use Rattle.std.specs.Prelude.{◌&&◌, Bool, true, [], ◌∷◌}
use Rattle.std.specs.List.{list_all}
use Rattle.plain_tree.specs.Attrs.{Entries, PlainAttr, PlainAttrs, PlainDict, Number, Attrs, Dict, OfType, Numbers, end_of_attrs, more_attrs, end_of_entries, more_entries}
use Rattle.plain_tree.specs.Ops.{Kind, PlainModule, Values}
use Rattle.rule_model.specs.Formed.{are_formed_values, is_formed_type, is_number_of, is_signed}
use Rattle.read_terms.specs.Standing.{op_stands}

abbrev mutual
  -- each type in it is formed, each number is one of its type, and those of an array are of its width
  pub is_fit_attr : PlainAttr → Bool
  is_fit_attr (Number value t) = is_formed_type t && is_number_of t value
  is_fit_attr (Attrs attrs) = are_fit_attrs attrs
  is_fit_attr (Dict entries) = is_fit_dict entries
  is_fit_attr (OfType t) = is_formed_type t
  is_fit_attr (Numbers width values) = list_all (is_signed width) values
  is_fit_attr _ = true

  pub are_fit_attrs : PlainAttrs → Bool
  are_fit_attrs end_of_attrs = true
  are_fit_attrs (more_attrs a rest) = is_fit_attr a && are_fit_attrs rest

  pub is_fit_dict : PlainDict → Bool
  is_fit_dict end_of_entries = true
  is_fit_dict (more_entries name a rest) = is_fit_attr a && is_fit_dict rest

-- the entries of a dictionary of an operation
abbrev pub are_fit_entries : Entries → Bool
are_fit_entries [] = true
are_fit_entries (e ∷ es) = is_fit_attr e.1 && are_fit_entries es

-- an operation by itself: the types of its results, and its dictionaries
abbrev pub is_fit_here : Kind → Values → Bool
is_fit_here k results = are_formed_values results && (are_fit_entries k.props && are_fit_entries k.attrs)

-- a module: its dictionaries, and its functions with all that stand in them
abbrev pub is_fit_module : PlainModule → Bool
is_fit_module m = (are_fit_entries m.props && are_fit_entries m.attrs) && list_all (op_stands is_fit_here are_formed_values) m.funcs
