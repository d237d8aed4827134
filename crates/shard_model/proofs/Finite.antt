-- Each key is finite: the way from a key to a part of it, and on, ends.
use Rattle.std.specs.Prelude.{◌≡◌, ℕ, zero, suc, List, [], ◌∷◌, ◌++◌, map, Some, slice_get}
use Rattle.std.proofs.Common.{sym, ◌∙◌, ap, subst, refl}
use Rattle.std.proofs.lemmas.List.{map-append}
use Rattle.std.proofs.lemmas.Option.{same_Some, none-some}
use Rattle.tree_model.specs.declared.type_tree.TypeTree.{TypeTree, out-TypeTree, roll-TypeTree, out-roll-TypeTree, map-TypeTree}
use Rattle.tree_model.specs.declared.type_tree.TypeTree.TheOpen.{TypeTree-F}
use Rattle.tree_model.specs.declared.type_tree.TypeTree.TheFolds.{ind-TypeTree}
use Rattle.tree_model.specs.declared.attr_tree.AttrTree.{AttrTree, out-AttrTree, roll-AttrTree, out-roll-AttrTree, map-AttrTree}
use Rattle.tree_model.specs.declared.attr_tree.AttrTree.TheOpen.{AttrTree-F}
use Rattle.tree_model.specs.declared.attr_tree.AttrTree.TheFolds.{ind-AttrTree}
use Rattle.key_model.specs.declared.key.Key.{Key}
use Rattle.key_model.specs.declared.key.Key.TheVariants.{OfType, OfAttr}
use Rattle.key_model.specs.Parts.{types_of, keys_of, values_of, parts_of}

-- each part of the key is finite
pub data IsFinite : Key → Type 0 where
  finite : (k : Key) → ((i : ℕ) (p : Key) → slice_get (parts_of k) i ≡ Some p → IsFinite p) → IsFinite k

abbrev pub AreFinite : List Key → Type 0
AreFinite ks = (i : ℕ) (p : Key) → slice_get ks i ≡ Some p → IsFinite p

none_finite : AreFinite []
none_finite i p at = absurd (none-some p at)

more_finite : (k : Key) (ks : List Key) → IsFinite k → AreFinite ks → AreFinite (k ∷ ks)
more_finite k ks f all zero p at = subst IsFinite (same_Some k p at) f
more_finite k ks f all (suc i) p at = all i p at

both_finite : (ks ls : List Key) → AreFinite ks → AreFinite ls → AreFinite (ks ++ ls)
both_finite [] ls f g = g
both_finite (k ∷ ks) ls f g = more_finite k (ks ++ ls) (f 0 k refl) (both_finite ks ls (λ i. f (suc i)) g)

abbrev IsFiniteType : TypeTree → Type 0
IsFiniteType t = IsFinite (OfType t)

abbrev KeptType : Type 0
KeptType = (t : TypeTree) × IsFiniteType t

abbrev kept_type : KeptType → TypeTree
kept_type k = k.0

types_finite : (ks : List KeptType) → AreFinite (map OfType (map kept_type ks))
types_finite [] = none_finite
types_finite (k ∷ ks) = more_finite (OfType k.0) (map OfType (map kept_type ks)) k.1 (types_finite ks)

-- the parts of one layer, where each type in it is finite
type_layer : (y : TypeTree-F KeptType) → AreFinite (map OfType (types_of (map-TypeTree KeptType TypeTree kept_type y)))
type_layer (TypeTree-F.Int width) = none_finite
type_layer TypeTree-F.Index = none_finite
type_layer (TypeTree-F.Memref dims element) = more_finite (OfType element.0) [] element.1 none_finite
type_layer (TypeTree-F.Func inputs outputs) =
    subst AreFinite (sym (map-append OfType (map kept_type inputs) (map kept_type outputs)))
    (both_finite (map OfType (map kept_type inputs)) (map OfType (map kept_type outputs)) (types_finite inputs) (types_finite outputs))
type_layer TypeTree-F.Ptr = none_finite
type_layer TypeTree-F.Void = none_finite
type_layer (TypeTree-F.Struct fields) = types_finite fields
type_layer (TypeTree-F.Array n element) = more_finite (OfType element.0) [] element.1 none_finite
type_layer (TypeTree-F.LlvmFunc output inputs) = more_finite (OfType output.0) (map OfType (map kept_type inputs)) output.1 (types_finite inputs)

pub finite_type : (t : TypeTree) → IsFiniteType t
finite_type = ind-TypeTree IsFiniteType (λ x y is.
    finite (OfType (roll-TypeTree x)) (subst (λ (z : TypeTree-F TypeTree). AreFinite (map OfType (types_of z))) (is ∙ sym (out-roll-TypeTree x)) (type_layer y)))

abbrev IsFiniteAttr : AttrTree → Type 0
IsFiniteAttr a = IsFinite (OfAttr a)

abbrev KeptAttr : Type 0
KeptAttr = (a : AttrTree) × IsFiniteAttr a

abbrev kept_attr : KeptAttr → AttrTree
kept_attr k = k.0

abbrev opened : List ℕ × KeptAttr → List ℕ × AttrTree
opened e = (e.0, kept_attr e.1)

attrs_finite : (ks : List KeptAttr) → AreFinite (map OfAttr (map kept_attr ks))
attrs_finite [] = none_finite
attrs_finite (k ∷ ks) = more_finite (OfAttr k.0) (map OfAttr (map kept_attr ks)) k.1 (attrs_finite ks)

values_finite : (es : List (List ℕ × KeptAttr)) → AreFinite (map OfAttr (values_of (map opened es)))
values_finite [] = none_finite
values_finite (e ∷ es) = more_finite (OfAttr e.1.0) (map OfAttr (values_of (map opened es))) e.1.1 (values_finite es)

attr_layer : (y : AttrTree-F KeptAttr) → AreFinite (keys_of (map-AttrTree KeptAttr AttrTree kept_attr y))
attr_layer AttrTree-F.Unit = none_finite
attr_layer (AttrTree-F.Int value t) = more_finite (OfType t) [] (finite_type t) none_finite
attr_layer (AttrTree-F.Str text) = none_finite
attr_layer (AttrTree-F.List items) = attrs_finite items
attr_layer (AttrTree-F.Dict entries) = values_finite entries
attr_layer (AttrTree-F.OfType t) = more_finite (OfType t) [] (finite_type t) none_finite
attr_layer (AttrTree-F.Symbol name) = none_finite
attr_layer (AttrTree-F.Ints width numbers) = none_finite
attr_layer (AttrTree-F.Dialect name words) = none_finite

pub finite_attr : (a : AttrTree) → IsFiniteAttr a
finite_attr = ind-AttrTree IsFiniteAttr (λ x y is.
    finite (OfAttr (roll-AttrTree x)) (subst (λ (z : AttrTree-F AttrTree). AreFinite (keys_of z)) (is ∙ sym (out-roll-AttrTree x)) (attr_layer y)))

pub finite_key : (k : Key) → IsFinite k
finite_key (OfType t) = finite_type t
finite_key (OfAttr a) = finite_attr a
