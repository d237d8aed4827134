use Rattle.std.proofs.Common.{◌≡◌, drop}
use Rattle.conversion_model.specs.Reconciled as model
use Rattle.value_types.specs.Views.{type_at}
use Rattle.tree_reconcile.specs.Plans.{cast_by, casts_by}
use Rattle.tree_reconcile.specs.Views.{single_at, singles_at}
use Rattle.tree_reconcile.proofs.steps.stands_for.Given as goal

abbrev pub invariant-loop-other : goal.invariant-loop-other
invariant-loop-other l =
    model.stands_for (cast_by (type_at l.types) (single_at l.cast)) (casts_by (type_at l.types) (singles_at (drop l.other-index l.casts)))
    ≡ model.stands_for (cast_by (type_at l.types) (single_at l.cast)) (casts_by (type_at l.types) (singles_at l.casts))
