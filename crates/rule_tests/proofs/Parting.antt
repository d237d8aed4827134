-- The first of some types, and those behind them.
use Rattle.std.proofs.Common.{◌≡◌, ℕ, Bool, true, false, List, take, drop, sym, ap, ◌∙◌}
use Rattle.std.specs.Prelude.{◌&&◌}
use Rattle.std.specs.Borrow.{Bor}
use Rattle.std.specs.List.{take-map, drop-map}
use Rattle.tree_model.specs.declared.type_tree.TypeTree.{TypeTree}
use Rattle.plain_tree.specs.Types.{plain_type}
use Rattle.rule_model.specs.Facts.{Target}
use Rattle.rule_model.specs.Control.{may_take}
use Rattle.value_types.specs.Views.{plain_types}

pub first_taken : (count : ℕ) (ts front : List (Bor TypeTree)) (t : Target) (a : Bool) → front ≡ take count ts → a ≡ may_take (plain_types front) t
    → a ≡ may_take (take count (plain_types ts)) t
first_taken count ts front t a e is = is ∙ ap (λ xs. may_take (plain_types xs) t) e ∙ ap (λ xs. may_take xs t) (sym (take-map (λ r. plain_type r.now) count ts))

pub others_taken : (count : ℕ) (ts behind : List (Bor TypeTree)) (u : Target) (b : Bool) → behind ≡ drop count ts → b ≡ may_take (plain_types behind) u
    → b ≡ may_take (drop count (plain_types ts)) u
others_taken count ts behind u b e is = is ∙ ap (λ xs. may_take (plain_types xs) u) e ∙ ap (λ xs. may_take xs u) (sym (drop-map (λ r. plain_type r.now) count ts))

pub both_hold : (a p b q : Bool) → a ≡ p → a ≡ true → b ≡ q → b ≡ (p && q)
both_hold a p b q e h f = f ∙ ap (λ x. x && q) (sym h ∙ e)

pub first_fails : (a p q : Bool) → a ≡ p → a ≡ false → a ≡ (p && q)
first_fails a p q e h = h ∙ ap (λ x. x && q) (sym h ∙ e)
