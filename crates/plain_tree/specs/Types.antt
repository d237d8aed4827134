-- Types as plain data. A list of types within a type is data of its own.
use Rattle.std.specs.Prelude.{ℕ, ◌==◌, Bool, true, false, ◌&&◌, List, [], ◌∷◌}
use Rattle.tree_model.specs.declared.type_tree.Dim.{Dim}
use Rattle.tree_model.specs.declared.type_tree.Dim.TheVariants.{Fixed, Dynamic}
use Rattle.tree_model.specs.declared.type_tree.TypeTree.{TypeTree}
use Rattle.tree_model.specs.declared.type_tree.TypeTree as type
use Rattle.tree_model.specs.declared.type_tree.TypeTree.TheOpen.{TypeTree-F}
use Rattle.tree_model.specs.declared.type_tree.TypeTree.TheFolds.{fold-TypeTree}

mutual
  -- a type, with the cases of the trees' types
  pub data PlainType : Type 0 where
    Int : ℕ → PlainType
    Index : PlainType
    Memref : List Dim → PlainType → PlainType
    Func : PlainTypes → PlainTypes → PlainType
    Ptr : PlainType
    Void : PlainType
    Struct : PlainTypes → PlainType
    Array : ℕ → PlainType → PlainType
    LlvmFunc : PlainType → PlainTypes → PlainType

  -- types in order
  pub data PlainTypes : Type 0 where
    end_of_types : PlainTypes
    more_types : PlainType → PlainTypes → PlainTypes

-- a list of types as such data, and back
abbrev pub types_in : List PlainType → PlainTypes
types_in [] = end_of_types
types_in (t ∷ ts) = more_types t (types_in ts)

abbrev pub types_of : PlainTypes → List PlainType
types_of end_of_types = []
types_of (more_types t ts) = t ∷ types_of ts

abbrev mutual
  -- the tree of a plain type
  pub type_tree : PlainType → TypeTree
  type_tree (Int width) = type.Int width
  type_tree Index = type.Index
  type_tree (Memref dims element) = type.Memref dims (type_tree element)
  type_tree (Func inputs outputs) = type.Func (type_trees inputs) (type_trees outputs)
  type_tree Ptr = type.Ptr
  type_tree Void = type.Void
  type_tree (Struct fields) = type.Struct (type_trees fields)
  type_tree (Array n element) = type.Array n (type_tree element)
  type_tree (LlvmFunc output inputs) = type.LlvmFunc (type_tree output) (type_trees inputs)

  pub type_trees : PlainTypes → List TypeTree
  type_trees end_of_types = []
  type_trees (more_types t ts) = type_tree t ∷ type_trees ts

abbrev pub plain_at : TypeTree-F PlainType → PlainType
plain_at (TypeTree-F.Int width) = Int width
plain_at TypeTree-F.Index = Index
plain_at (TypeTree-F.Memref dims element) = Memref dims element
plain_at (TypeTree-F.Func inputs outputs) = Func (types_in inputs) (types_in outputs)
plain_at TypeTree-F.Ptr = Ptr
plain_at TypeTree-F.Void = Void
plain_at (TypeTree-F.Struct fields) = Struct (types_in fields)
plain_at (TypeTree-F.Array n element) = Array n element
plain_at (TypeTree-F.LlvmFunc output inputs) = LlvmFunc output (types_in inputs)

-- the plain form of a type
unfoldable pub plain_type : TypeTree → PlainType
plain_type = fold-TypeTree PlainType plain_at

-- whether two dimensions are the same
abbrev pub same_dim : Dim → Dim → Bool
same_dim (Fixed m) (Fixed n) = m == n
same_dim Dynamic Dynamic = true
same_dim _ _ = false

abbrev pub same_dims : List Dim → List Dim → Bool
same_dims [] [] = true
same_dims (d ∷ ds) (e ∷ es) = same_dim d e && same_dims ds es
same_dims _ _ = false

abbrev mutual
  -- whether two types are the same
  pub same_type : PlainType → PlainType → Bool
  same_type (Int m) (Int n) = m == n
  same_type Index Index = true
  same_type (Memref ds t) (Memref es u) = same_dims ds es && same_type t u
  same_type (Func ts us) (Func vs ws) = same_types ts vs && same_types us ws
  same_type Ptr Ptr = true
  same_type Void Void = true
  same_type (Struct ts) (Struct us) = same_types ts us
  same_type (Array m t) (Array n u) = (m == n) && same_type t u
  same_type (LlvmFunc t ts) (LlvmFunc u us) = same_type t u && same_types ts us
  same_type _ _ = false

  pub same_types : PlainTypes → PlainTypes → Bool
  same_types end_of_types end_of_types = true
  same_types (more_types t ts) (more_types u us) = same_type t u && same_types ts us
  same_types _ _ = false
