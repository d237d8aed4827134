-- Pieces put one behind another.
use Rattle.std.proofs.Common.{◌≡◌, ℕ, ◌+◌, ◌*◌, List, [], ◌∷◌, ◌++◌, append_assoc, ap, ◌∙◌}
use Rattle.std.specs.Prelude.{ℤ, codes}
use Rattle.tree_model.specs.declared.type_tree.TypeTree.{TypeTree}
use Rattle.tree_model.specs.declared.type_tree.TypeTree as type
use Rattle.tree_model.specs.declared.attr_tree.AttrTree.{AttrTree}
use Rattle.plain_tree.specs.Types.{PlainType, plain_type}
use Rattle.plain_tree.specs.Attrs.{plain_entries}
use Rattle.plain_tree.proofs.TypeOpens.{plain-Index}
use Rattle.pattern_model.specs.Drafts.{constant_value}
use Rattle.cut_code.specs.declared.pieces.CutValue.{CutValue}
use Rattle.cut_code.specs.declared.pieces.CutValue.TheVariants.{Old, New}
use Rattle.cut_code.specs.declared.pieces.CutLabel.{CutLabel}
use Rattle.cut_code.specs.declared.pieces.CutLabel.TheVariants as labels
use Rattle.cut_code.specs.declared.pieces.PieceTree.{PieceTree}
use Rattle.cut_code.specs.declared.pieces.PieceTree.TheVariants.{Opens}
use Rattle.scf_rows.specs.Trees.{Typed, branch_tree, compare_tree, conditional_tree, constant_tree, for_head, loop_values, old_values, product_tree, test_trees}

pub constant_made : (k e : ℕ) (n : ℤ) (known results : Typed) (nothing : List CutValue) (props : List (List ℕ × AttrTree)) (p : PieceTree)
    → known ≡ (k, type.Index) ∷ (e, type.Int 1) ∷ [] → results ≡ (k, type.Index) ∷ [] → nothing ≡ [] → plain_entries props ≡ constant_value (plain_type type.Index) n
    → p ≡ product_tree known (codes "arith.constant") results nothing (plain_entries props) [] → p ≡ constant_tree k e n
constant_made k e n known results nothing props p is_known is_results is_nothing is_props h =
    h
    ∙ ap (λ (vs : Typed). product_tree vs (codes "arith.constant") results nothing (plain_entries props) []) is_known
    ∙ ap (λ (vs : Typed). product_tree ((k, type.Index) ∷ (e, type.Int 1) ∷ []) (codes "arith.constant") vs nothing (plain_entries props) []) is_results
    ∙ ap (λ (vs : List CutValue). product_tree ((k, type.Index) ∷ (e, type.Int 1) ∷ []) (codes "arith.constant") ((k, type.Index) ∷ []) vs (plain_entries props) []) is_nothing
    ∙ ap (λ ps. product_tree ((k, type.Index) ∷ (e, type.Int 1) ∷ []) (codes "arith.constant") ((k, type.Index) ∷ []) [] ps []) (is_props ∙ ap (λ (t : PlainType). constant_value t n) plain-Index)

three_put : (ps ps1 ps2 ps3 : List PieceTree) (p q r : PieceTree) → ps1 ≡ ps ++ p ∷ [] → ps2 ≡ ps1 ++ q ∷ [] → ps3 ≡ ps2 ++ r ∷ [] → ps3 ≡ ps ++ p ∷ q ∷ r ∷ []
three_put ps ps1 ps2 ps3 p q r e f g =
    g
    ∙ ap (λ (l : List PieceTree). l ++ r ∷ []) (f ∙ ap (λ (l : List PieceTree). l ++ q ∷ []) e ∙ append_assoc ps (p ∷ []) (q ∷ []))
    ∙ append_assoc ps (p ∷ q ∷ []) (r ∷ [])

-- the test of a case number, by its constant and its bit
abbrev test_by : ℕ → ℕ → ℕ → ℤ → CutLabel → CutLabel → List PieceTree
test_by index k e n case other =
    constant_tree k e n
    ∷ compare_tree ((k, type.Index) ∷ (e, type.Int 1) ∷ []) e (Old index) (New k) 0
    ∷ conditional_tree ((k, type.Index) ∷ (e, type.Int 1) ∷ []) (New e) [] case other
    ∷ []

pub test_made : (index test k e : ℕ) (n : ℤ) (case other : CutLabel) (known again : Typed) (p q r : PieceTree) (ps ps1 ps2 ps3 : List PieceTree)
    → k ≡ 2 * test → e ≡ k + 1 → known ≡ (k, type.Index) ∷ (e, type.Int 1) ∷ [] → again ≡ (k, type.Index) ∷ (e, type.Int 1) ∷ []
    → p ≡ constant_tree k e n → q ≡ compare_tree known e (Old index) (New k) 0 → r ≡ conditional_tree again (New e) [] case other
    → ps1 ≡ ps ++ p ∷ [] → ps2 ≡ ps1 ++ q ∷ [] → ps3 ≡ ps2 ++ r ∷ [] → ps3 ≡ ps ++ test_trees index test n case other
test_made index test k e n case other known again p q r ps ps1 ps2 ps3 is_k is_e is_known is_again is_p is_q is_r put1 put2 put3 =
    three_put ps ps1 ps2 ps3 p q r put1 put2 put3
    ∙ ap (λ (x : PieceTree). ps ++ x ∷ q ∷ r ∷ []) is_p
    ∙ ap (λ (x : PieceTree). ps ++ constant_tree k e n ∷ x ∷ r ∷ []) (is_q ∙ ap (λ (vs : Typed). compare_tree vs e (Old index) (New k) 0) is_known)
    ∙ ap (λ (x : PieceTree). ps ++ constant_tree k e n ∷ compare_tree ((k, type.Index) ∷ (e, type.Int 1) ∷ []) e (Old index) (New k) 0 ∷ x ∷ [])
    (is_r ∙ ap (λ (vs : Typed). conditional_tree vs (New e) [] case other) is_again)
    ∙ ap (λ m. ps ++ test_by index k m n case other) is_e
    ∙ ap (λ m. ps ++ test_by index m (m + 1) n case other) is_k

pub head_made : (lower upper body : ℕ) (initial : List ℕ) (args : Typed) (iv : ℕ × TypeTree) (known1 known2 known3 : Typed) (passed : List CutValue) (p q r : PieceTree) (ps ps1 ps2 ps3 ps4 : List PieceTree)
    → known1 ≡ loop_values iv.1 → known2 ≡ loop_values iv.1 → known3 ≡ loop_values iv.1 → passed ≡ Old lower ∷ old_values initial
    → p ≡ branch_tree known1 passed (labels.New 0) → q ≡ compare_tree known2 0 (Old iv.0) (Old upper) 2 → r ≡ conditional_tree known3 (New 0) [] (labels.Old body) (labels.New 1)
    → ps1 ≡ ps ++ p ∷ [] → ps2 ≡ ps1 ++ Opens (labels.New 0) args ∷ [] → ps3 ≡ ps2 ++ q ∷ [] → ps4 ≡ ps3 ++ r ∷ []
    → ps4 ≡ ps ++ for_head lower upper initial body args iv
head_made lower upper body initial args iv known1 known2 known3 passed p q r ps ps1 ps2 ps3 ps4 is1 is2 is3 is_passed is_p is_q is_r put1 put2 put3 put4 =
    let known : Typed = loop_values iv.1 in
    put4
    ∙ ap (λ (l : List PieceTree). l ++ r ∷ []) (three_put ps ps1 ps2 ps3 p (Opens (labels.New 0) args) q put1 put2 put3)
    ∙ append_assoc ps (p ∷ Opens (labels.New 0) args ∷ q ∷ []) (r ∷ [])
    ∙ ap (λ (x : PieceTree). ps ++ x ∷ Opens (labels.New 0) args ∷ q ∷ r ∷ [])
    (is_p ∙ ap (λ (vs : Typed). branch_tree vs passed (labels.New 0)) is1 ∙ ap (λ (vs : List CutValue). branch_tree known vs (labels.New 0)) is_passed)
    ∙ ap (λ (x : PieceTree). ps ++ branch_tree known (Old lower ∷ old_values initial) (labels.New 0) ∷ Opens (labels.New 0) args ∷ x ∷ r ∷ [])
    (is_q ∙ ap (λ (vs : Typed). compare_tree vs 0 (Old iv.0) (Old upper) 2) is2)
    ∙ ap (λ (x : PieceTree). ps ++ branch_tree known (Old lower ∷ old_values initial) (labels.New 0) ∷ Opens (labels.New 0) args ∷ compare_tree known 0 (Old iv.0) (Old upper) 2 ∷ x ∷ [])
    (is_r ∙ ap (λ (vs : Typed). conditional_tree vs (New 0) [] (labels.Old body) (labels.New 1)) is3)
