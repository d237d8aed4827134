use Rattle.plain_tree.proofs.TypeOpens.{plain-Void}
use Rattle.tree_reconcile.specs.Views.{plan_at, singles_at}
use Rattle.tree_reconcile.proofs.WholeLaws.{pairs_once}
use Rattle.tree_reconcile.proofs.reconcile.plan_at_once.Goals as goal

pub returns-clause-plan : goal.returns-clause-plan
returns-clause-plan c = λ g edit.
    pairs_once c.args.f.now c.args.ops.now (singles_at c.args.casts.now) (plan_at c.in_ok-plan.plan) g
    c.requires.ops c.requires.plain c.requires.casts c.requires.order c.in_ok-plan.ensures.plan edit

pub plan_in-requires : goal.plan_in-requires
plan_in-requires c = plain-Void
