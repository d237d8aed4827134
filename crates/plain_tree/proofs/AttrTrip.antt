-- An attribute is the tree of its plain form.
use Rattle.std.proofs.Common.{◌≡◌, ℕ, List, [], ◌∷◌, map, refl, sym, ap, ◌∙◌, subst}
use Rattle.tree_model.specs.declared.attr_tree.AttrTree.{AttrTree, roll-AttrTree, map-AttrTree}
use Rattle.tree_model.specs.declared.attr_tree.AttrTree as attr
use Rattle.tree_model.specs.declared.attr_tree.AttrTree.TheVariants as attr_parts
use Rattle.tree_model.specs.declared.attr_tree.AttrTree.TheOpen.{AttrTree-F}
use Rattle.tree_model.specs.declared.attr_tree.AttrTree.TheFolds.{ind-AttrTree, fold-roll-AttrTree}
use Rattle.plain_tree.specs.Attrs.{PlainAttr, attr_tree, attr_trees, attrs_in, dict_in, dict_tree, plain_attr, plain_at, plain_entries, entries_tree}
use Rattle.plain_tree.proofs.TypeTrip.{type_trip}

abbrev pub AttrTrip : AttrTree → Type 0
AttrTrip a = attr_tree (plain_attr a) ≡ a

abbrev pub Kept : Type 0
Kept = (a : AttrTree) × AttrTrip a

abbrev pub kept : Kept → AttrTree
kept k = k.0

attrs_trip : (ks : List Kept) → attr_trees (attrs_in (map plain_attr (map kept ks))) ≡ map kept ks
attrs_trip [] = refl
attrs_trip (k ∷ ks) = ap (λ t. t ∷ attr_trees (attrs_in (map plain_attr (map kept ks)))) k.1 ∙ ap (λ ts. k.0 ∷ ts) (attrs_trip ks)

abbrev opened : List ℕ × Kept → List ℕ × AttrTree
opened e = (e.0, kept e.1)

abbrev planed : List ℕ × AttrTree → List ℕ × PlainAttr
planed e = (e.0, plain_attr e.1)

dict_trip : (es : List (List ℕ × Kept)) → dict_tree (dict_in (map planed (map opened es))) ≡ map opened es
dict_trip [] = refl
dict_trip (e ∷ es) = ap (λ a. (e.0, a) ∷ dict_tree (dict_in (map planed (map opened es)))) e.1.1 ∙ ap (λ rest. opened e ∷ rest) (dict_trip es)

-- of one layer, where all attributes in it keep the law
layer : (y : AttrTree-F Kept) → attr_tree (plain_at (map-AttrTree AttrTree PlainAttr plain_attr (map-AttrTree Kept AttrTree kept y))) ≡ roll-AttrTree (map-AttrTree Kept AttrTree kept y)
layer AttrTree-F.Unit = sym attr_parts.rolls-Unit
layer (AttrTree-F.Int value t) = ap (λ u. attr.Int value u) (type_trip t) ∙ sym (attr_parts.rolls-Int value t)
layer (AttrTree-F.Str bytes) = sym (attr_parts.rolls-Str bytes)
layer (AttrTree-F.List attrs) = ap (λ ts. attr.List ts) (attrs_trip attrs) ∙ sym (attr_parts.rolls-List (map kept attrs))
layer (AttrTree-F.Dict entries) = ap (λ ts. attr.Dict ts) (dict_trip entries) ∙ sym (attr_parts.rolls-Dict (map opened entries))
layer (AttrTree-F.OfType t) = ap (λ u. attr.OfType u) (type_trip t) ∙ sym (attr_parts.rolls-OfType t)
layer (AttrTree-F.Symbol name) = sym (attr_parts.rolls-Symbol name)
layer (AttrTree-F.Ints width values) = sym (attr_parts.rolls-Ints width values)
layer (AttrTree-F.Dialect name words) = sym (attr_parts.rolls-Dialect name words)

pub attr_trip : (a : AttrTree) → AttrTrip a
unfolding plain_attr
attr_trip = ind-AttrTree AttrTrip (λ x y is.
    ap attr_tree (fold-roll-AttrTree PlainAttr plain_at x)
    ∙ subst (λ (z : AttrTree-F AttrTree). attr_tree (plain_at (map-AttrTree AttrTree PlainAttr plain_attr z)) ≡ roll-AttrTree z) is (layer y))

pub entries_trip : (es : List (List ℕ × AttrTree)) → entries_tree (plain_entries es) ≡ es
entries_trip [] = refl
entries_trip (e ∷ es) = ap (λ a. (e.0, a) ∷ entries_tree (plain_entries es)) (attr_trip e.1) ∙ ap (λ rest. e ∷ rest) (entries_trip es)
