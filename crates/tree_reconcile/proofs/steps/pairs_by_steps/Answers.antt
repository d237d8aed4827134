use Rattle.std.proofs.Common.{◌∙◌, sym, ap}
use Rattle.std.specs.Option.{option_map}
use Rattle.plain_tree.specs.Ops.{plain_op}
use Rattle.tree_reconcile.proofs.WholeLaws.{steps_on}
use Rattle.tree_reconcile.proofs.steps.pairs_by_steps.Goals as goal

pub loop-step-preserved : goal.loop-step-preserved
loop-step-preserved c =
    steps_on c.args.room c.loop-step.step (plain_op c.loop-step.tree) (plain_op c.in-Some.next) c.loop-step-test.true (sym (ap (option_map plain_op) c.in-Some.is) ∙ c.in_ok-next.ensures)
    ∙ c.loop-step.invariant
