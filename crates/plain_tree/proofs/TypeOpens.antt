-- The plain form of each type that is written out, and of the tree of a plain type.
use Rattle.std.proofs.Common.{◌≡◌, ℕ, List, map, refl, sym, ap, ◌∙◌}
use Rattle.tree_model.specs.declared.type_tree.Dim.{Dim}
use Rattle.tree_model.specs.declared.type_tree.TypeTree.{TypeTree, roll-TypeTree}
use Rattle.tree_model.specs.declared.type_tree.TypeTree as type
use Rattle.tree_model.specs.declared.type_tree.TypeTree.TheVariants as type_parts
use Rattle.tree_model.specs.declared.type_tree.TypeTree.TheOpen.{TypeTree-F}
use Rattle.tree_model.specs.declared.type_tree.TypeTree.TheFolds.{fold-roll-TypeTree}
use Rattle.plain_tree.specs.Types.{PlainType, PlainTypes, Int, Index, Memref, Func, Ptr, Void, Struct, Array, LlvmFunc, end_of_types, more_types, type_tree, type_trees, types_in, plain_type, plain_at}

pub plain-Int : (width : ℕ) → plain_type (type.Int width) ≡ Int width
unfolding plain_type
plain-Int width = ap plain_type (sym (type_parts.rolls-Int width)) ∙ fold-roll-TypeTree PlainType plain_at (TypeTree-F.Int width)

pub plain-Index : plain_type type.Index ≡ Index
unfolding plain_type
plain-Index = ap plain_type (sym type_parts.rolls-Index) ∙ fold-roll-TypeTree PlainType plain_at TypeTree-F.Index

pub plain-Memref : (dims : List Dim) (element : TypeTree) → plain_type (type.Memref dims element) ≡ Memref dims (plain_type element)
unfolding plain_type
plain-Memref dims element = ap plain_type (sym (type_parts.rolls-Memref dims element)) ∙ fold-roll-TypeTree PlainType plain_at (TypeTree-F.Memref dims element)

pub plain-Func : (inputs outputs : List TypeTree) → plain_type (type.Func inputs outputs) ≡ Func (types_in (map plain_type inputs)) (types_in (map plain_type outputs))
unfolding plain_type
plain-Func inputs outputs = ap plain_type (sym (type_parts.rolls-Func inputs outputs)) ∙ fold-roll-TypeTree PlainType plain_at (TypeTree-F.Func inputs outputs)

pub plain-Ptr : plain_type type.Ptr ≡ Ptr
unfolding plain_type
plain-Ptr = ap plain_type (sym type_parts.rolls-Ptr) ∙ fold-roll-TypeTree PlainType plain_at TypeTree-F.Ptr

pub plain-Void : plain_type type.Void ≡ Void
unfolding plain_type
plain-Void = ap plain_type (sym type_parts.rolls-Void) ∙ fold-roll-TypeTree PlainType plain_at TypeTree-F.Void

pub plain-Struct : (fields : List TypeTree) → plain_type (type.Struct fields) ≡ Struct (types_in (map plain_type fields))
unfolding plain_type
plain-Struct fields = ap plain_type (sym (type_parts.rolls-Struct fields)) ∙ fold-roll-TypeTree PlainType plain_at (TypeTree-F.Struct fields)

pub plain-Array : (n : ℕ) (element : TypeTree) → plain_type (type.Array n element) ≡ Array n (plain_type element)
unfolding plain_type
plain-Array n element = ap plain_type (sym (type_parts.rolls-Array n element)) ∙ fold-roll-TypeTree PlainType plain_at (TypeTree-F.Array n element)

pub plain-LlvmFunc : (output : TypeTree) (inputs : List TypeTree) → plain_type (type.LlvmFunc output inputs) ≡ LlvmFunc (plain_type output) (types_in (map plain_type inputs))
unfolding plain_type
plain-LlvmFunc output inputs = ap plain_type (sym (type_parts.rolls-LlvmFunc output inputs)) ∙ fold-roll-TypeTree PlainType plain_at (TypeTree-F.LlvmFunc output inputs)

mutual
  -- the plain form of the tree of a plain type is that type
  pub plain_again : (t : PlainType) → plain_type (type_tree t) ≡ t
  plain_again (Int width) = plain-Int width
  plain_again Index = plain-Index
  plain_again (Memref dims element) = plain-Memref dims (type_tree element) ∙ ap (Memref dims) (plain_again element)
  plain_again (Func inputs outputs) =
      plain-Func (type_trees inputs) (type_trees outputs)
      ∙ ap (λ ts. Func ts (types_in (map plain_type (type_trees outputs)))) (all_again inputs)
      ∙ ap (λ ts. Func inputs ts) (all_again outputs)
  plain_again Ptr = plain-Ptr
  plain_again Void = plain-Void
  plain_again (Struct fields) = plain-Struct (type_trees fields) ∙ ap Struct (all_again fields)
  plain_again (Array n element) = plain-Array n (type_tree element) ∙ ap (Array n) (plain_again element)
  plain_again (LlvmFunc output inputs) =
      plain-LlvmFunc (type_tree output) (type_trees inputs)
      ∙ ap (λ t. LlvmFunc t (types_in (map plain_type (type_trees inputs)))) (plain_again output)
      ∙ ap (λ ts. LlvmFunc output ts) (all_again inputs)

  pub all_again : (ts : PlainTypes) → types_in (map plain_type (type_trees ts)) ≡ ts
  all_again end_of_types = refl
  all_again (more_types t ts) = ap (λ u. more_types u (types_in (map plain_type (type_trees ts)))) (plain_again t) ∙ ap (more_types t) (all_again ts)
