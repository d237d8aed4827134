use Rattle.std.proofs.Common.{◌≡◌, drop}
use Rattle.conversion_model.specs.Reconciled as model
use Rattle.value_types.specs.Views.{type_at}
use Rattle.tree_reconcile.specs.Plans.{casts_by}
use Rattle.tree_reconcile.specs.Views.{singles_at}
use Rattle.tree_reconcile.proofs.steps.first_pair.Given as goal

abbrev pub invariant-loop-cast : goal.invariant-loop-cast
invariant-loop-cast l =
    model.first_pair (casts_by (type_at l.types) (singles_at l.casts)) (casts_by (type_at l.types) (singles_at (drop l.cast-index l.casts)))
    ≡ model.first_pair (casts_by (type_at l.types) (singles_at l.casts)) (casts_by (type_at l.types) (singles_at l.casts))
