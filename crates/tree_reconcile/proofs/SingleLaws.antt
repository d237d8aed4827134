-- Casts of one operand and one result, by parts.
use Rattle.std.proofs.Common.{◌≡◌, ℕ, true, false, List, [], ◌∷◌, ◌++◌, refl, sym, ap, ◌∙◌, length, get_or, arith}
use Rattle.std.proofs.lemmas.Grind.{common_steps}
use Rattle.std.proofs.lemmas.List.{append_assoc}
use Rattle.plain_tree.specs.Types.{plain_type}
use Rattle.tree_model.specs.declared.type_tree.TypeTree.{TypeTree}
use Rattle.plain_tree.specs.Ops.{plain_values}
use Rattle.tree_reconcile.proofs.Layers.{line_at_is}
use Rattle.tree_reconcile.specs.Lines.{Line}
use Rattle.tree_reconcile.specs.Plans.{Single, single_in, single_of, singles}

pub no_cast : (l : Line) → l.is_cast ≡ false → [] ≡ single_in l
no_cast l e = sym (ap (λ b. single_of b l.results l.operands) e)

-- other than one result
pub not_one : (rs : List (ℕ × TypeTree)) (vs : List ℕ) → (length rs ≡ 1 → ⊥) → [] ≡ single_of true (plain_values rs) vs
not_one [] vs other = refl
not_one (r ∷ []) vs other = absurd (other refl)
not_one (r ∷ q ∷ rs) vs other = refl

pub one_only : (rs : List (ℕ × TypeTree)) (r : ℕ × TypeTree) → length rs ≡ 1 → r ≡ get_or rs 0 r → (r.0, plain_type r.1) ∷ [] ≡ plain_values rs
one_only [] r one is = absurd (omega (arith, one))
one_only (q ∷ []) r one is = ap (λ (x : ℕ × TypeTree). (x.0, plain_type x.1) ∷ []) is
one_only (q ∷ p ∷ rs) r one is = absurd (omega (arith, one))

pub singles_more : (ls : List Line) (l : Line) → singles (ls ++ l ∷ []) ≡ singles ls ++ single_in l
singles_more [] l = append_none (single_in l)
  where
    append_none : (xs : List Single) → xs ++ [] ≡ xs
    append_none [] = refl
    append_none (x ∷ xs) = ap (λ ys. x ∷ ys) (append_none xs)
singles_more (k ∷ ls) l = ap (λ xs. single_in k ++ xs) (singles_more ls l) ∙ sym (append_assoc (single_in k) (singles ls) (single_in l))

pub ruleset single_laws = (common_steps, line_at_is, no_cast, singles_more)
