-- Results that stand for values.
use Rattle.std.proofs.Common.{◌≡◌, ℕ, ◌-◌, ◌≤◌, List, [], ◌∷◌, ◌++◌, drop, length, min, refl, ap, ◌∙◌, arith}
use Rattle.std.proofs.lemmas.List.{append-nil, length-drop}
use Rattle.cut_code.specs.declared.pieces.PieceTree.{PieceTree}
use Rattle.scf_rows.specs.Trees.{Typed, stand_trees}

no_stands : (rs : Typed) (vs : List ℕ) → min (length rs) (length vs) ≡ 0 → stand_trees rs vs ≡ []
no_stands [] vs e = refl
no_stands (r ∷ rs) [] e = refl
no_stands (r ∷ rs) (v ∷ vs) e = absurd (omega (arith, e))

pub stands_ended : (results : Typed) (values : List ℕ) (i : ℕ) (pieces : List PieceTree) → min (length results) (length values) ≤ i → pieces ++ stand_trees (drop i results) (drop i values) ≡ pieces
stands_ended results values i pieces h =
    let d : length (drop i results) ≡ length results - i = length-drop i results in
    let e : length (drop i values) ≡ length values - i = length-drop i values in
    ap (λ (ps : List PieceTree). pieces ++ ps) (no_stands (drop i results) (drop i values) (omega (arith, d, e, h))) ∙ append-nil pieces
