use Rattle.rule_facts.specs.Views.{target_view}
use Rattle.rule_tests.proofs.Parting.{both_hold, first_fails, first_taken, others_taken}
use Rattle.rule_tests.proofs.successors.may_take_parted.Goals as goal

pub returns-then-may_take : goal.returns-then-may_take
returns-then-may_take c =
    both_hold c.may_take.result _ c.may_take-then-may_take.result _
    (first_taken c.args.count c.args.types.now c.front.result.now (target_view c.args.t.now) c.may_take.result c.front.ensures c.may_take.ensures) c.if-may_take.true
    (others_taken c.args.count c.args.types.now c.behind.result.now (target_view c.args.u.now) c.may_take-then-may_take.result c.behind.ensures c.may_take-then-may_take.ensures)

pub returns-else-may_take : goal.returns-else-may_take
returns-else-may_take c =
    first_fails c.may_take.result _ _
    (first_taken c.args.count c.args.types.now c.front.result.now (target_view c.args.t.now) c.may_take.result c.front.ensures c.may_take.ensures) c.if-may_take.false
