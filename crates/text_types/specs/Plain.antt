-- Terms as types.
use Rattle.std.specs.Prelude.{List, [], ◌∷◌}
use Rattle.tree_model.specs.declared.type_tree.Dim.{Dim}
use Rattle.tree_model.specs.declared.type_tree.Dim.TheVariants.{Fixed, Dynamic}
use Rattle.plain_tree.specs.Types.{PlainType, PlainTypes, Int, Index, Memref, Func, Ptr, Void, Struct, Array, LlvmFunc, end_of_types, more_types}
use Rattle.term_table.specs.declared.node.Form.TheVariants as forms
use Rattle.term_table.specs.Terms.{Term, nothing, node}

-- the sizes before the element of a memref
abbrev pub sizes_of : Term → List Dim
sizes_of (node forms.Size n more _) = Fixed n ∷ sizes_of more
sizes_of (node forms.Dynamic n more _) = Dynamic ∷ sizes_of more
sizes_of _ = []

abbrev mutual
  -- the type of a term
  pub type_of : Term → PlainType
  type_of (node forms.Int width _ _) = Int width
  type_of (node forms.Index _ _ _) = Index
  type_of (node forms.Memref _ sizes _) = Memref (sizes_of sizes) (type_of sizes)
  type_of (node forms.Func _ inputs results) = Func (types_of inputs) (types_of results)
  type_of (node forms.Ptr _ _ _) = Ptr
  type_of (node forms.Struct _ fields _) = Struct (types_of fields)
  type_of (node forms.Array n element _) = Array n (type_of element)
  type_of (node forms.LlvmFunc _ output inputs) = LlvmFunc (type_of output) (types_of inputs)
  -- behind sizes, that of the element
  type_of (node forms.Size _ more _) = type_of more
  type_of (node forms.Dynamic _ more _) = type_of more
  type_of _ = Void

  -- the types of a list
  pub types_of : Term → PlainTypes
  types_of (node forms.Types _ first more) = more_types (type_of first) (types_of more)
  types_of _ = end_of_types

-- the sizes before the term of an element
abbrev pub sizes_before : List Dim → Term → Term
sizes_before [] element = element
sizes_before (Fixed n ∷ sizes) element = node forms.Size n (sizes_before sizes element) nothing
sizes_before (Dynamic ∷ sizes) element = node forms.Dynamic 0 (sizes_before sizes element) nothing

abbrev mutual
  -- the term of a type
  pub term_of : PlainType → Term
  term_of (Int width) = node forms.Int width nothing nothing
  term_of Index = node forms.Index 0 nothing nothing
  term_of (Memref sizes element) = node forms.Memref 0 (sizes_before sizes (term_of element)) nothing
  term_of (Func inputs results) = node forms.Func 0 (terms_of inputs) (terms_of results)
  term_of Ptr = node forms.Ptr 0 nothing nothing
  term_of Void = node forms.Void 0 nothing nothing
  term_of (Struct fields) = node forms.Struct 0 (terms_of fields) nothing
  term_of (Array n element) = node forms.Array n (term_of element) nothing
  term_of (LlvmFunc output inputs) = node forms.LlvmFunc 0 (term_of output) (terms_of inputs)

  -- the term of a list of types
  pub terms_of : PlainTypes → Term
  terms_of end_of_types = nothing
  terms_of (more_types first more) = node forms.Types 0 (term_of first) (terms_of more)
