use Rattle.std.proofs.Common.{◌≡◌, ◌≤◌, ℕ, drop, length, nat_eq}
use Rattle.std.specs.HashSet.{contains}
use Rattle.tree_reconcile.specs.Plans.{has_result, is_in_order}
use Rattle.tree_reconcile.specs.Views.{singles_at}
use Rattle.tree_reconcile.proofs.singles.are_in_order.Given as goal

abbrev pub invariant-each : goal.invariant-each
invariant-each l =
    (l.index ≤ length l.casts) × (l.ordered ≡ is_in_order (singles_at (drop l.index l.casts)))
    × ((n : ℕ) → contains nat_eq l.results n ≡ has_result (singles_at (drop l.index l.casts)) n)

abbrev pub decreases-each : goal.decreases-each
decreases-each l = l.index
