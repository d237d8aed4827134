-- Sources and numbers in order.
use Rattle.std.proofs.Common.{◌≡◌, ℕ, suc, ◌+◌, ◌-◌, ◌<◌, List, [], ◌∷◌, ◌++◌, append_assoc, drop, length, map, Bool, refl, sym, ap, ◌∙◌, arith}
use Rattle.std.proofs.lemmas.List.{drop_more}
use Rattle.tree_model.specs.declared.type_tree.TypeTree.{TypeTree}
use Rattle.tree_model.specs.declared.type_tree.TypeTree as type
use Rattle.plain_tree.specs.Types.{plain_type}
use Rattle.conversion_model.specs.declared.templates.Source.{Source}
use Rattle.conversion_model.specs.Chosen.{counted, places}
use Rattle.choice_code.specs.Own.{source_of}

-- the places of types are those of their plain forms
pub plain_places : (k : ℕ) (ts : List TypeTree) → places k (map plain_type ts) ≡ places k ts
plain_places k [] = refl
plain_places k (t ∷ ts) = ap (λ ks. k ∷ ks) (plain_places (k + 1) ts)

pub source_more : (made : Bool) (types : List TypeTree) (k : ℕ) (sources more : List Source) → k < length types → more ≡ sources ++ source_of made k ∷ []
    → sources ++ map (source_of made) (places k (drop k types)) ≡ map (source_of made) (places 0 types)
    → more ++ map (source_of made) (places (k + 1) (drop (k + 1) types)) ≡ map (source_of made) (places 0 types)
source_more made types k sources more h e is =
    let rest : List Source = map (source_of made) (places (k + 1) (drop (k + 1) types)) in
    ap (λ ss. ss ++ rest) e
    ∙ append_assoc sources (source_of made k ∷ []) rest
    ∙ sym (ap (λ ts. sources ++ map (source_of made) (places k ts)) (drop_more types k type.Void h))
    ∙ is

pub number_more : (n k : ℕ) (numbers more : List ℕ) → k < n → more ≡ numbers ++ k ∷ [] → numbers ++ counted k (n - k) ≡ counted 0 n → more ++ counted (k + 1) (n - (k + 1)) ≡ counted 0 n
number_more n k numbers more h e is =
    let left : n - k ≡ suc (n - (k + 1)) = omega arith in
    ap (λ ks. ks ++ counted (k + 1) (n - (k + 1))) e
    ∙ append_assoc numbers (k ∷ []) (counted (k + 1) (n - (k + 1)))
    ∙ sym (ap (λ m. numbers ++ counted k m) left)
    ∙ is
