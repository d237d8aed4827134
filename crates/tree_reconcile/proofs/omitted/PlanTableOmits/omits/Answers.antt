use Rattle.std.proofs.Common.{◌∙◌}
use Rattle.tree_reconcile.specs.Views.{plan_at, single_at}
use Rattle.tree_reconcile.proofs.WholeLaws.{none_gone, one_gone}
use Rattle.tree_reconcile.proofs.omitted.PlanTableOmits.omits.Goals as goal

pub returns-in-None : goal.returns-in-None
returns-in-None c = none_gone (plan_at c.args.self.now).gone c.args.op.now c.in-None.ensures

pub returns-in-Some : goal.returns-in-Some
returns-in-Some c = c.contains.ensures ∙ one_gone (plan_at c.args.self.now).gone c.args.op.now (single_at c.in-Some.cast) c.in-Some.ensures
