-- The plain form of each attribute that is written out, and of the tree of a plain attribute.
use Rattle.std.proofs.Common.{◌≡◌, ℕ, List, [], ◌∷◌, map, refl, sym, ap, ◌∙◌}
use Rattle.std.specs.Prelude.{ℤ}
use Rattle.tree_model.specs.declared.type_tree.TypeTree.{TypeTree}
use Rattle.tree_model.specs.declared.attr_tree.AttrTree.{AttrTree, roll-AttrTree}
use Rattle.tree_model.specs.declared.attr_tree.AttrTree as attr
use Rattle.tree_model.specs.declared.attr_tree.AttrTree.TheVariants as attr_parts
use Rattle.tree_model.specs.declared.attr_tree.AttrTree.TheOpen.{AttrTree-F}
use Rattle.tree_model.specs.declared.attr_tree.AttrTree.TheFolds.{fold-roll-AttrTree}
use Rattle.plain_tree.specs.Types.{plain_type, type_tree}
use Rattle.plain_tree.specs.Attrs.{PlainAttr, PlainAttrs, PlainDict, Unit, Number, Text, Attrs, Dict, OfType, Symbol, Numbers, Dialect, end_of_attrs, more_attrs, end_of_entries, more_entries, Entries, attr_tree, attr_trees, dict_tree, attrs_in, dict_in, entries_tree, plain_attr, plain_at, plain_entries}
use Rattle.plain_tree.proofs.TypeOpens.{plain_again}

-- an entry with its attribute in plain form
abbrev pub plain_entry : List ℕ × AttrTree → List ℕ × PlainAttr
plain_entry e = (e.0, plain_attr e.1)

pub plain-Unit : plain_attr attr.Unit ≡ Unit
unfolding plain_attr
plain-Unit = ap plain_attr (sym attr_parts.rolls-Unit) ∙ fold-roll-AttrTree PlainAttr plain_at AttrTree-F.Unit

pub plain-Int : (value : ℤ) (t : TypeTree) → plain_attr (attr.Int value t) ≡ Number value (plain_type t)
unfolding plain_attr
plain-Int value t = ap plain_attr (sym (attr_parts.rolls-Int value t)) ∙ fold-roll-AttrTree PlainAttr plain_at (AttrTree-F.Int value t)

pub plain-Str : (bytes : List ℕ) → plain_attr (attr.Str bytes) ≡ Text bytes
unfolding plain_attr
plain-Str bytes = ap plain_attr (sym (attr_parts.rolls-Str bytes)) ∙ fold-roll-AttrTree PlainAttr plain_at (AttrTree-F.Str bytes)

pub plain-List : (attrs : List AttrTree) → plain_attr (attr.List attrs) ≡ Attrs (attrs_in (map plain_attr attrs))
unfolding plain_attr
plain-List attrs = ap plain_attr (sym (attr_parts.rolls-List attrs)) ∙ fold-roll-AttrTree PlainAttr plain_at (AttrTree-F.List attrs)

pub plain-Dict : (entries : List (List ℕ × AttrTree)) → plain_attr (attr.Dict entries) ≡ Dict (dict_in (map plain_entry entries))
unfolding plain_attr
plain-Dict entries = ap plain_attr (sym (attr_parts.rolls-Dict entries)) ∙ fold-roll-AttrTree PlainAttr plain_at (AttrTree-F.Dict entries)

pub plain-OfType : (t : TypeTree) → plain_attr (attr.OfType t) ≡ OfType (plain_type t)
unfolding plain_attr
plain-OfType t = ap plain_attr (sym (attr_parts.rolls-OfType t)) ∙ fold-roll-AttrTree PlainAttr plain_at (AttrTree-F.OfType t)

pub plain-Symbol : (name : List ℕ) → plain_attr (attr.Symbol name) ≡ Symbol name
unfolding plain_attr
plain-Symbol name = ap plain_attr (sym (attr_parts.rolls-Symbol name)) ∙ fold-roll-AttrTree PlainAttr plain_at (AttrTree-F.Symbol name)

pub plain-Ints : (width : ℕ) (values : List ℤ) → plain_attr (attr.Ints width values) ≡ Numbers width values
unfolding plain_attr
plain-Ints width values = ap plain_attr (sym (attr_parts.rolls-Ints width values)) ∙ fold-roll-AttrTree PlainAttr plain_at (AttrTree-F.Ints width values)

pub plain-Dialect : (name : List ℕ) (words : List (List ℕ)) → plain_attr (attr.Dialect name words) ≡ Dialect name words
unfolding plain_attr
plain-Dialect name words = ap plain_attr (sym (attr_parts.rolls-Dialect name words)) ∙ fold-roll-AttrTree PlainAttr plain_at (AttrTree-F.Dialect name words)

mutual
  -- the plain form of the tree of a plain attribute is that attribute
  pub attr_again : (a : PlainAttr) → plain_attr (attr_tree a) ≡ a
  attr_again Unit = plain-Unit
  attr_again (Number value t) = plain-Int value (type_tree t) ∙ ap (Number value) (plain_again t)
  attr_again (Text bytes) = plain-Str bytes
  attr_again (Attrs attrs) = plain-List (attr_trees attrs) ∙ ap Attrs (attrs_again attrs)
  attr_again (Dict entries) = plain-Dict (dict_tree entries) ∙ ap Dict (dict_again entries)
  attr_again (OfType t) = plain-OfType (type_tree t) ∙ ap OfType (plain_again t)
  attr_again (Symbol name) = plain-Symbol name
  attr_again (Numbers width values) = plain-Ints width values
  attr_again (Dialect name words) = plain-Dialect name words

  pub attrs_again : (rest : PlainAttrs) → attrs_in (map plain_attr (attr_trees rest)) ≡ rest
  attrs_again end_of_attrs = refl
  attrs_again (more_attrs a rest) = ap (λ b. more_attrs b (attrs_in (map plain_attr (attr_trees rest)))) (attr_again a) ∙ ap (more_attrs a) (attrs_again rest)

  pub dict_again : (rest : PlainDict) → dict_in (map plain_entry (dict_tree rest)) ≡ rest
  dict_again end_of_entries = refl
  dict_again (more_entries name a rest) =
      ap (λ b. more_entries name b (dict_in (map plain_entry (dict_tree rest)))) (attr_again a) ∙ ap (more_entries name a) (dict_again rest)

pub entries_again : (es : Entries) → plain_entries (entries_tree es) ≡ es
entries_again [] = refl
entries_again (e ∷ es) = ap (λ a. (e.0, a) ∷ plain_entries (entries_tree es)) (attr_again e.1) ∙ ap (λ rest. e ∷ rest) (entries_again es)
