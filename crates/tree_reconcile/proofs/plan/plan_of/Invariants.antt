use Rattle.std.proofs.Common.{◌≡◌, drop}
use Rattle.stand_ins.specs.Forests.{IsForest}
use Rattle.stand_ins.specs.Tables.{forest_of}
use Rattle.value_types.specs.Views.{type_at}
use Rattle.tree_reconcile.specs.Plans.{at_start, with_casts}
use Rattle.tree_reconcile.specs.Views.{plan_at, singles_at}
use Rattle.tree_reconcile.proofs.plan.plan_of.Given as goal

abbrev pub invariant-loop-cast : goal.invariant-loop-cast
invariant-loop-cast l =
    IsForest (forest_of l.plan.to)
    × (with_casts (type_at l.types) (plan_at l.plan) (singles_at (drop l.cast-index l.casts)) ≡ with_casts (type_at l.types) at_start (singles_at l.casts))
