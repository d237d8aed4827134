use Rattle.std.proofs.Common.{◌≡◌, ℕ, take}
use Rattle.std.specs.Prelude.{◌||◌}
use Rattle.tree_reconcile.specs.Lines.{among}
use Rattle.tree_reconcile.specs.Views.{holds}
use Rattle.tree_reconcile.proofs.used.put_numbers.Given as goal

abbrev pub invariant-each : goal.invariant-each
invariant-each l = (v : ℕ) → holds l.set v ≡ (among v (take l.number-index l.numbers) || holds l.initial.set v)
