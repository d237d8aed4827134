-- A path from its first number on.
use Rattle.std.proofs.Common.{◌≡◌, ℕ, zero, suc, List, [], ◌∷◌, map, refl, sym, ap, ◌∙◌}
use Rattle.std.specs.Prelude.{ℤ, pos, negsuc, Option, Some, None}
use Rattle.std.specs.List.{slice_get}
use Rattle.tree_model.specs.declared.type_tree.TypeTree.{TypeTree}
use Rattle.std.specs.Option.{option_map}
use Rattle.plain_tree.specs.Types.{PlainType, plain_type, types_in, types_of}
use Rattle.rule_model.specs.Words.{if_some}
use Rattle.rule_model.specs.Forms.{and_natural, at_place, naturals, part_at, part_of}
use Rattle.rule_facts.specs.Views.{walked}

pub types_again : (ts : List PlainType) → types_of (types_in ts) ≡ ts
types_again [] = refl
types_again (t ∷ ts) = let e = types_again ts in ap (λ us. t ∷ us) e

none_left : (o : Option PlainType) (next : PlainType → Option PlainType) → ((t : PlainType) → next t ≡ None) → None ≡ if_some o next
none_left None next none = refl
none_left (Some t) next none = sym (none t)

-- one number, and the others from there
pub walked_on : (z : ℤ) (zs : List ℤ) (t : PlainType) → walked (z ∷ zs) t ≡ if_some (walked (z ∷ []) t) (walked zs)
walked_on (negsuc n) zs t = refl
walked_on (pos n) zs t = go (naturals zs)
  where
    go : (o : Option (List ℕ)) → if_some (and_natural (pos n) o) (λ path. part_at path t) ≡ if_some (if_some {B = PlainType} (part_of n t) (λ x. Some x)) (λ u. if_some o (λ path. part_at path u))
    go None = none_left (if_some {B = PlainType} (part_of n t) (λ x. Some x)) (λ u. None) (λ u. refl)
    go (Some path) = one (part_of n t)
      where
        one : (p : Option PlainType) → if_some p (part_at path) ≡ if_some (if_some {B = PlainType} p (λ x. Some x)) (λ u. part_at path u)
        one None = refl
        one (Some u) = refl

-- the field at a place
pub at_fields : (ts : List TypeTree) (n : ℕ) → option_map plain_type (slice_get ts n) ≡ at_place n (map plain_type ts)
at_fields [] n = refl
at_fields (t ∷ ts) zero = refl
at_fields (t ∷ ts) (suc n) = at_fields ts n

pub field_at : (ts : List TypeTree) (n : ℕ) (o : Option TypeTree) → o ≡ slice_get ts n → option_map plain_type o ≡ at_place n (types_of (types_in (map plain_type ts)))
field_at ts n o e = ap (option_map plain_type) e ∙ at_fields ts n ∙ ap (at_place n) (sym (types_again (map plain_type ts)))

pub step : (z : ℤ) (zs : List ℤ) (t : PlainType) (o : Option PlainType) → o ≡ walked (z ∷ []) t → None ≡ o → None ≡ walked (z ∷ zs) t
step z zs t o e none = ap (λ p. if_some p (walked zs)) (none ∙ e) ∙ sym (walked_on z zs t)

pub onward : (z : ℤ) (zs : List ℤ) (t u : PlainType) → Some u ≡ walked (z ∷ []) t → walked zs u ≡ walked (z ∷ zs) t
onward z zs t u e = ap (λ p. if_some p (walked zs)) e ∙ sym (walked_on z zs t)
