use Rattle.std.proofs.Common.{◌≡◌, ◌==◌, ℕ, take}
use Rattle.std.specs.Prelude.{◌||◌}
use Rattle.std.specs.List.{list_any}
use Rattle.tree_reconcile.specs.Views.{holds}
use Rattle.tree_reconcile.proofs.used.put_values.Given as goal

abbrev pub invariant-each : goal.invariant-each
invariant-each l = (v : ℕ) → holds l.set v ≡ (list_any (λ r. r.0 == v) (take l.value-index l.values) || holds l.initial.set v)
