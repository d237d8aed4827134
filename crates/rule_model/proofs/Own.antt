-- The search decides whether a value uses itself.
use Rattle.std.proofs.Common.{◌≡◌, ℕ, Bool, true, false, List, Option, Some, sym, ◌∙◌, true≢false}
use Rattle.plain_tree.specs.Ops.{Op}
use Rattle.rule_model.specs.Words.{has}
use Rattle.rule_model.specs.Chains.{Chain, uses, by_way_of, op_used}
use Rattle.rule_model.specs.Search.{among_reached}
use Rattle.rule_model.proofs.Numbers.{all_of}
use Rattle.rule_model.proofs.Reached.{Closed, is_reached, set_of}

longer : {f : Op} {v u : ℕ} (w : ℕ) → Chain f v u → has w (op_used u f) ≡ true → Chain f v w
longer {u = u} w (uses h) e = by_way_of u h (uses e)
longer w (by_way_of x h rest) e = by_way_of x h (longer w rest e)

abbrev pub is_own : Op → ℕ → Option Bool
is_own f v = among_reached (λ u. op_used u f) (op_used v f) v

pub own : (f : Op) (v : ℕ) → is_own f v ≡ Some true → Chain f v v
own f v e =
    is_reached (Chain f v) (λ u. op_used u f) (op_used v f) v (λ u c. all_of (Chain f v) (op_used u f) (λ w h. longer w c h)) (all_of (Chain f v) (op_used v f) (λ u h. uses h)) e

within : {f : Op} {u w : ℕ} {starts seen : List ℕ} → Closed (λ x. op_used x f) starts seen → has u seen ≡ true → Chain f u w → has w seen ≡ true
within {u = u} {w = w} c h (uses e) = c.stays u w h e
within {u = u} c h (by_way_of x e rest) = within c (c.stays u x h e) rest

from_start : {f : Op} {v w : ℕ} {seen : List ℕ} → Closed (λ x. op_used x f) (op_used v f) seen → Chain f v w → has w seen ≡ true
from_start {w = w} c (uses e) = c.begins w e
from_start c (by_way_of x e rest) = within c (c.begins x e) rest

pub not_own : (f : Op) (v : ℕ) → is_own f v ≡ Some false → Chain f v v → ⊥
not_own f v e chain =
    let (seen, c, n) = set_of (λ u. op_used u f) (op_used v f) v false e in
    true≢false (sym (from_start c chain) ∙ n)
