-- A key is its head and its parts.
use Rattle.std.specs.Prelude.{◌≡◌, ℕ, List, [], ◌∷◌, ◌++◌, map, length, take, drop, zip}
use Rattle.std.proofs.Common.{sym, ◌∙◌, ap, refl}
use Rattle.std.proofs.Math.Seq.{take-append_seam, drop-append_seam}
use Rattle.tree_model.specs.declared.type_tree.TypeTree.{TypeTree, out-TypeTree, roll-TypeTree, roll-out-TypeTree}
use Rattle.tree_model.specs.declared.type_tree.TypeTree as type
use Rattle.tree_model.specs.declared.type_tree.TypeTree.TheOpen.{TypeTree-F}
use Rattle.tree_model.specs.declared.attr_tree.AttrTree.{AttrTree, out-AttrTree, roll-AttrTree, roll-out-AttrTree}
use Rattle.tree_model.specs.declared.attr_tree.AttrTree as attr
use Rattle.tree_model.specs.declared.attr_tree.AttrTree.TheOpen.{AttrTree-F}
use Rattle.key_model.specs.declared.key.Key.{Key}
use Rattle.key_model.specs.declared.key.Key.TheVariants.{OfType, OfAttr}
use Rattle.key_model.specs.Parts.{type_head, types_of, attr_head, keys_of, names_of, values_of, head_of, parts_of}
use Rattle.key_model.specs.Build.{build, types_among, attrs_among}

types_back : (ts : List TypeTree) → types_among (map OfType ts) ≡ ts
types_back [] = refl
types_back (t ∷ ts) = ap (λ l. t ∷ l) (types_back ts)

attrs_back : (xs : List AttrTree) → attrs_among (map OfAttr xs) ≡ xs
attrs_back [] = refl
attrs_back (a ∷ xs) = ap (λ l. a ∷ l) (attrs_back xs)

zip_back : (es : List (List ℕ × AttrTree)) → zip (names_of es) (values_of es) ≡ es
zip_back [] = refl
zip_back (e ∷ es) = ap (λ l. e ∷ l) (zip_back es)

built_type : (y : TypeTree-F TypeTree) → build (type_head y) (map OfType (types_of y)) ≡ OfType (roll-TypeTree y)
unfolding roll-TypeTree denote.Hole.Carrier.roll
built_type (TypeTree-F.Int width) = refl
built_type TypeTree-F.Index = refl
built_type (TypeTree-F.Memref dims element) = refl
built_type (TypeTree-F.Func inputs results) = ap (λ l. OfType (type.Func (take (length inputs) l) (drop (length inputs) l))) (types_back (inputs ++ results)) ∙ (λ i. OfType (type.Func (take-append_seam inputs results i) (drop-append_seam inputs results i)))
built_type TypeTree-F.Ptr = refl
built_type TypeTree-F.Void = refl
built_type (TypeTree-F.Struct fields) = ap (λ l. OfType (type.Struct l)) (types_back fields)
built_type (TypeTree-F.Array n element) = refl
built_type (TypeTree-F.LlvmFunc output inputs) = ap (λ l. OfType (type.LlvmFunc output l)) (types_back inputs)

built_attr : (y : AttrTree-F AttrTree) → build (attr_head y) (keys_of y) ≡ OfAttr (roll-AttrTree y)
unfolding roll-AttrTree denote.Hole.Carrier.roll
built_attr AttrTree-F.Unit = refl
built_attr (AttrTree-F.Int value t) = refl
built_attr (AttrTree-F.Str text) = refl
built_attr (AttrTree-F.List items) = ap (λ l. OfAttr (attr.List l)) (attrs_back items)
built_attr (AttrTree-F.Dict entries) = ap (λ l. OfAttr (attr.Dict (zip (names_of entries) l))) (attrs_back (values_of entries)) ∙ ap (λ l. OfAttr (attr.Dict l)) (zip_back entries)
built_attr (AttrTree-F.OfType t) = refl
built_attr (AttrTree-F.Symbol name) = refl
built_attr (AttrTree-F.Ints width numbers) = refl
built_attr (AttrTree-F.Dialect name words) = refl

-- a key is built again from its head and its parts
pub built : (k : Key) → build (head_of k) (parts_of k) ≡ k
built (OfType t) = built_type (out-TypeTree t) ∙ ap OfType (roll-out-TypeTree t)
built (OfAttr a) = built_attr (out-AttrTree a) ∙ ap OfAttr (roll-out-AttrTree a)

-- so keys with one head and the same parts are one
pub exact_key : (k l : Key) → head_of k ≡ head_of l → parts_of k ≡ parts_of l → k ≡ l
exact_key k l heads parts = sym (built k) ∙ (λ i. build (heads i) (parts i)) ∙ built l
