-- Attributes as plain data.
use Rattle.std.specs.Prelude.{ℕ, ℤ, List, [], ◌∷◌, Option, Some, None, if◌then◌else◌}
use Rattle.std.specs.Str.{bytes_eq}
use Rattle.tree_model.specs.declared.attr_tree.AttrTree.{AttrTree}
use Rattle.tree_model.specs.declared.attr_tree.AttrTree as attr
use Rattle.tree_model.specs.declared.attr_tree.AttrTree.TheOpen.{AttrTree-F}
use Rattle.tree_model.specs.declared.attr_tree.AttrTree.TheFolds.{fold-AttrTree}
use Rattle.plain_tree.specs.Types.{PlainType, type_tree, plain_type}

mutual
  -- an attribute, with the cases of the trees' attributes
  pub data PlainAttr : Type 0 where
    Unit : PlainAttr
    Number : ℤ → PlainType → PlainAttr
    Text : List ℕ → PlainAttr
    Attrs : PlainAttrs → PlainAttr
    Dict : PlainDict → PlainAttr
    OfType : PlainType → PlainAttr
    Symbol : List ℕ → PlainAttr
    Numbers : ℕ → List ℤ → PlainAttr
    Dialect : List ℕ → List (List ℕ) → PlainAttr

  -- attributes in order
  pub data PlainAttrs : Type 0 where
    end_of_attrs : PlainAttrs
    more_attrs : PlainAttr → PlainAttrs → PlainAttrs

  -- attributes by name
  pub data PlainDict : Type 0 where
    end_of_entries : PlainDict
    more_entries : List ℕ → PlainAttr → PlainDict → PlainDict

-- the entries of a dictionary of an operation
abbrev pub Entries : Type 0
Entries = List (List ℕ × PlainAttr)

abbrev pub attrs_in : List PlainAttr → PlainAttrs
attrs_in [] = end_of_attrs
attrs_in (a ∷ rest) = more_attrs a (attrs_in rest)

abbrev pub dict_in : Entries → PlainDict
dict_in [] = end_of_entries
dict_in (e ∷ rest) = more_entries e.0 e.1 (dict_in rest)

abbrev mutual
  -- the tree of a plain attribute
  pub attr_tree : PlainAttr → AttrTree
  attr_tree Unit = attr.Unit
  attr_tree (Number value t) = attr.Int value (type_tree t)
  attr_tree (Text bytes) = attr.Str bytes
  attr_tree (Attrs attrs) = attr.List (attr_trees attrs)
  attr_tree (Dict entries) = attr.Dict (dict_tree entries)
  attr_tree (OfType t) = attr.OfType (type_tree t)
  attr_tree (Symbol name) = attr.Symbol name
  attr_tree (Numbers width values) = attr.Ints width values
  attr_tree (Dialect name words) = attr.Dialect name words

  pub attr_trees : PlainAttrs → List AttrTree
  attr_trees end_of_attrs = []
  attr_trees (more_attrs a rest) = attr_tree a ∷ attr_trees rest

  pub dict_tree : PlainDict → List (List ℕ × AttrTree)
  dict_tree end_of_entries = []
  dict_tree (more_entries name a rest) = (name, attr_tree a) ∷ dict_tree rest

-- the tree of an operation's entries
abbrev pub entries_tree : Entries → List (List ℕ × AttrTree)
entries_tree [] = []
entries_tree (e ∷ rest) = (e.0, attr_tree e.1) ∷ entries_tree rest

abbrev pub plain_at : AttrTree-F PlainAttr → PlainAttr
plain_at AttrTree-F.Unit = Unit
plain_at (AttrTree-F.Int value t) = Number value (plain_type t)
plain_at (AttrTree-F.Str bytes) = Text bytes
plain_at (AttrTree-F.List attrs) = Attrs (attrs_in attrs)
plain_at (AttrTree-F.Dict entries) = Dict (dict_in entries)
plain_at (AttrTree-F.OfType t) = OfType (plain_type t)
plain_at (AttrTree-F.Symbol name) = Symbol name
plain_at (AttrTree-F.Ints width values) = Numbers width values
plain_at (AttrTree-F.Dialect name words) = Dialect name words

-- the plain form of an attribute
unfoldable pub plain_attr : AttrTree → PlainAttr
plain_attr = fold-AttrTree PlainAttr plain_at

abbrev pub plain_entries : List (List ℕ × AttrTree) → Entries
plain_entries [] = []
plain_entries (e ∷ rest) = (e.0, plain_attr e.1) ∷ plain_entries rest

-- the entry of that name
abbrev pub entry : List ℕ → Entries → Option PlainAttr
entry name [] = None
entry name (e ∷ es) = if bytes_eq e.0 name then Some e.1 else entry name es
