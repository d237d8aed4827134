-- How the lists of parts grow, key by key.
use Rattle.std.proofs.Common.{◌≡◌, List, [], ◌∷◌, ◌++◌, ap, refl}
use Rattle.std.specs.List.{zip}
use Rattle.std.proofs.lemmas.Grind.{common_steps}
use Rattle.tree_model.specs.declared.type_tree.TypeTree.{TypeTree}
use Rattle.tree_model.specs.declared.attr_tree.AttrTree.{AttrTree}
use Rattle.key_model.specs.declared.key.Key.{Key}
use Rattle.key_model.specs.declared.key.Key.TheVariants.{OfType, OfAttr}
use Rattle.key_model.specs.Build.{types_among, attrs_among}

pub types_more : (ks : List Key) (t : TypeTree) → types_among (ks ++ OfType t ∷ []) ≡ types_among ks ++ t ∷ []
types_more [] t = refl
types_more (OfType u ∷ ks) t = ap (λ l. u ∷ l) (types_more ks t)
types_more (OfAttr a ∷ ks) t = types_more ks t

pub types_same : (ks : List Key) (a : AttrTree) → types_among (ks ++ OfAttr a ∷ []) ≡ types_among ks
types_same [] a = refl
types_same (OfType u ∷ ks) a = ap (λ l. u ∷ l) (types_same ks a)
types_same (OfAttr b ∷ ks) a = types_same ks a

pub attrs_more : (ks : List Key) (a : AttrTree) → attrs_among (ks ++ OfAttr a ∷ []) ≡ attrs_among ks ++ a ∷ []
attrs_more [] a = refl
attrs_more (OfType u ∷ ks) a = attrs_more ks a
attrs_more (OfAttr b ∷ ks) a = ap (λ l. b ∷ l) (attrs_more ks a)

pub attrs_same : (ks : List Key) (t : TypeTree) → attrs_among (ks ++ OfType t ∷ []) ≡ attrs_among ks
attrs_same [] t = refl
attrs_same (OfType u ∷ ks) t = attrs_same ks t
attrs_same (OfAttr b ∷ ks) t = ap (λ l. b ∷ l) (attrs_same ks t)

pub zip_none : {A B : Type 0} (xs : List A) → zip {X = B} xs [] ≡ []
zip_none [] = refl
zip_none (x ∷ xs) = refl

pub ruleset build_steps = (common_steps, zip_none, types_more, types_same, attrs_more, attrs_same)
