-- A type is the tree of its plain form.
use Rattle.std.proofs.Common.{◌≡◌, List, [], ◌∷◌, map, refl, sym, ap, ◌∙◌, subst}
use Rattle.tree_model.specs.declared.type_tree.TypeTree.{TypeTree, roll-TypeTree, map-TypeTree}
use Rattle.tree_model.specs.declared.type_tree.TypeTree as type
use Rattle.tree_model.specs.declared.type_tree.TypeTree.TheVariants as type_parts
use Rattle.tree_model.specs.declared.type_tree.TypeTree.TheOpen.{TypeTree-F}
use Rattle.tree_model.specs.declared.type_tree.TypeTree.TheFolds.{ind-TypeTree, fold-roll-TypeTree}
use Rattle.plain_tree.specs.Types.{PlainType, type_tree, type_trees, types_in, plain_type, plain_at}

abbrev pub TypeTrip : TypeTree → Type 0
TypeTrip t = type_tree (plain_type t) ≡ t

abbrev pub Kept : Type 0
Kept = (t : TypeTree) × TypeTrip t

abbrev pub kept : Kept → TypeTree
kept k = k.0

types_trip : (ks : List Kept) → type_trees (types_in (map plain_type (map kept ks))) ≡ map kept ks
types_trip [] = refl
types_trip (k ∷ ks) = ap (λ t. t ∷ type_trees (types_in (map plain_type (map kept ks)))) k.1 ∙ ap (λ ts. k.0 ∷ ts) (types_trip ks)

-- of one layer, where all types in it keep the law
layer : (y : TypeTree-F Kept) → type_tree (plain_at (map-TypeTree TypeTree PlainType plain_type (map-TypeTree Kept TypeTree kept y))) ≡ roll-TypeTree (map-TypeTree Kept TypeTree kept y)
layer (TypeTree-F.Int width) = sym (type_parts.rolls-Int width)
layer TypeTree-F.Index = sym type_parts.rolls-Index
layer (TypeTree-F.Memref dims element) = ap (λ t. type.Memref dims t) element.1 ∙ sym (type_parts.rolls-Memref dims element.0)
layer (TypeTree-F.Func inputs outputs) =
    ap (λ ts. type.Func ts (type_trees (types_in (map plain_type (map kept outputs))))) (types_trip inputs)
    ∙ ap (λ ts. type.Func (map kept inputs) ts) (types_trip outputs)
    ∙ sym (type_parts.rolls-Func (map kept inputs) (map kept outputs))
layer TypeTree-F.Ptr = sym type_parts.rolls-Ptr
layer TypeTree-F.Void = sym type_parts.rolls-Void
layer (TypeTree-F.Struct fields) = ap (λ ts. type.Struct ts) (types_trip fields) ∙ sym (type_parts.rolls-Struct (map kept fields))
layer (TypeTree-F.Array n element) = ap (λ t. type.Array n t) element.1 ∙ sym (type_parts.rolls-Array n element.0)
layer (TypeTree-F.LlvmFunc output inputs) =
    ap (λ t. type.LlvmFunc t (type_trees (types_in (map plain_type (map kept inputs))))) output.1
    ∙ ap (λ ts. type.LlvmFunc output.0 ts) (types_trip inputs)
    ∙ sym (type_parts.rolls-LlvmFunc output.0 (map kept inputs))

pub type_trip : (t : TypeTree) → TypeTrip t
unfolding plain_type
type_trip = ind-TypeTree TypeTrip (λ x y is.
    ap type_tree (fold-roll-TypeTree PlainType plain_at x)
    ∙ subst (λ (z : TypeTree-F TypeTree). type_tree (plain_at (map-TypeTree TypeTree PlainType plain_type z)) ≡ roll-TypeTree z) is (layer y))
