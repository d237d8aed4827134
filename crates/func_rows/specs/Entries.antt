-- Entries of dictionaries as trees, and what the attributes of a function say.
use Rattle.std.specs.Prelude.{ℕ, List, [], ◌∷◌, ◌++◌, Option, Some, None, codes, if◌then◌else◌}
use Rattle.std.specs.Str.{bytes_eq}
use Rattle.tree_model.specs.declared.attr_tree.AttrTree.{AttrTree}
use Rattle.tree_model.specs.declared.attr_tree.AttrTree as attr
use Rattle.tree_model.specs.declared.type_tree.TypeTree.{TypeTree}
use Rattle.plain_tree.specs.Types.{PlainType, Func, types_of}
use Rattle.plain_tree.specs.Attrs.{PlainAttr, OfType}

abbrev pub unless_named : List ℕ → List ℕ × AttrTree → List (List ℕ × AttrTree)
unless_named name e = if bytes_eq e.0 name then [] else e ∷ []

abbrev pub trees_without : List ℕ → List (List ℕ × AttrTree) → List (List ℕ × AttrTree)
trees_without name [] = []
trees_without name (e ∷ es) = unless_named name e ++ trees_without name es

abbrev pub optional_tree : List ℕ → Option AttrTree → List (List ℕ × AttrTree)
optional_tree name None = []
optional_tree name (Some a) = (name, a) ∷ []

-- the properties that each function has
abbrev pub fixed_trees : TypeTree → AttrTree → List (List ℕ × AttrTree)
fixed_trees t name =
    (codes "function_type", attr.OfType t)
    ∷ (codes "linkage", attr.Dialect (codes "llvm.linkage") (codes "external" ∷ []))
    ∷ (codes "sym_name", name)
    ∷ []

-- the type that an attribute is
abbrev pub type_in : PlainAttr → Option PlainType
type_in (OfType t) = Some t
type_in _ = None

-- the inputs of a function type
abbrev pub inputs_in : PlainType → Option (List PlainType)
inputs_in (Func inputs outputs) = Some (types_of inputs)
inputs_in _ = None
