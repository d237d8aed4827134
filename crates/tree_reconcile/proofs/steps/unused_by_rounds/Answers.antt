use Rattle.std.proofs.Common.{◌∙◌, sym, ap}
use Rattle.std.specs.Option.{option_map}
use Rattle.plain_tree.specs.Ops.{plain_op}
use Rattle.tree_reconcile.proofs.WholeLaws.{rounds_on}
use Rattle.tree_reconcile.proofs.steps.unused_by_rounds.Goals as goal

pub loop-round-preserved : goal.loop-round-preserved
loop-round-preserved c =
    rounds_on c.args.room c.loop-round.round (plain_op c.loop-round.tree) (plain_op c.in-Some.next) c.loop-round-test.true (sym (ap (option_map plain_op) c.in-Some.is) ∙ c.in_ok-next.ensures)
    ∙ c.loop-round.invariant
