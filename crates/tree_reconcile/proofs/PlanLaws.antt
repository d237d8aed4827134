-- One cast more.
use Rattle.std.proofs.Common.{◌≡◌, ℕ, Option, ap, ◌∙◌}
use Rattle.plain_tree.specs.Types.{PlainType}
use Rattle.tree_reconcile.specs.Plans.{Plan, Single, planned, undone_by, with_cast}

-- where the ways became shorter on the way
pub one_more : (T : ℕ → PlainType) (p q r x : Plan) (c : Single) (v : ℕ) (o : Option ℕ) → q ≡ p → r ≡ q → v ≡ p.to c.operand → o ≡ undone_by T q c (q.kept v) → x ≡ planned r c o → x ≡ with_cast T p c
one_more T p q r x c v o first second value found done =
    done ∙ ap (λ (s : Plan). planned s c o) (second ∙ first)
    ∙ ap (planned p c) (found ∙ ap (λ (s : Plan). undone_by T s c (s.kept v)) first ∙ ap (λ n. undone_by T p c (p.kept n)) value)
