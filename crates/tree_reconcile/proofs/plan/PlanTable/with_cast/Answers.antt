use Rattle.std.proofs.Common.{None, Some}
use Rattle.value_types.specs.Views.{type_at}
use Rattle.tree_reconcile.specs.Views.{plan_at, single_at}
use Rattle.tree_reconcile.proofs.PlanLaws.{one_more}
use Rattle.tree_reconcile.proofs.plan.PlanTable.with_cast.Goals as goal

pub returns-in_ok-keep-in-None-clause-plan : goal.returns-in_ok-keep-in-None-clause-plan
returns-in_ok-keep-in-None-clause-plan c =
    one_more (type_at c.args.types.now) (plan_at c.args.self.now) (plan_at c.number-value.new.self) (plan_at c.undone_by.new.self) (plan_at c.keep.new.self) (single_at c.args.cast.now) c.number-value.result None
    c.number-value.ensures.same c.undone_by.ensures.same c.number-value.ensures.number c.in-None.ensures.operand c.in_ok-keep-in-None.ensures.plan

pub returns-in_ok-give_up-in-Some-clause-plan : goal.returns-in_ok-give_up-in-Some-clause-plan
returns-in_ok-give_up-in-Some-clause-plan c =
    one_more (type_at c.args.types.now) (plan_at c.args.self.now) (plan_at c.number-value.new.self) (plan_at c.undone_by.new.self) (plan_at c.give_up.new.self) (single_at c.args.cast.now) c.number-value.result (Some c.in-Some.operand)
    c.number-value.ensures.same c.undone_by.ensures.same c.number-value.ensures.number c.in-Some.ensures.operand c.in_ok-give_up-in-Some.ensures.plan
