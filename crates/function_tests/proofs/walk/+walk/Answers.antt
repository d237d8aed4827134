use Rattle.std.specs.Option.{option_map}
use Rattle.value_types.specs.Views.{plain_types}
use Rattle.rule_facts.specs.Views.{holder_view}
use Rattle.std.proofs.Common.{ap}
use Rattle.function_tests.specs.Walks.{seen_by, typed_by}
use Rattle.function_tests.proofs.Runs.{one_broke, one_kept, op_passed}
use Rattle.function_tests.proofs.walk.+walk.Goals as goal

pub first_in_op-returns : goal.first_in_op-returns
first_in_op-returns t c =
    op_passed (seen_by c.args.walk.now) (typed_by c.args.walk.now) (option_map holder_view c.args.around.now.holder) _ c.args.last c.args.count.now c.args.op.now
    c.as_slice.result.now c.as_slice-2.result.now c.as_slice-3.result.now c.as_slice-in-None.result.now
    (plain_types c.in_ok-operands.operands.items) (plain_types c.in_ok-results.results.items) (plain_types c.as_slice-4.result.now) (plain_types c.as_slice-5.result.now)
    c.in_ok-rule.field-0 c.in_ok-count-in-None.field-0 _
    c.as_slice.ensures c.as_slice-2.ensures c.as_slice-3.ensures c.as_slice-in-None.ensures
    c.in_ok-operands.ensures c.in_ok-results.ensures (ap plain_types c.as_slice-4.ensures.value) (ap plain_types c.as_slice-5.ensures.value)
    c.in_ok-rule.ensures c.in-None.is c.in_ok-count-in-None.ensures c.in_ok-first_in_regions-in-None.ensures

pub first_in_ops-returns-in-Some : goal.first_in_ops-returns-in-Some
first_in_ops-returns-in-Some t c =
    one_broke (seen_by c.args.walk.now) (typed_by c.args.walk.now) (option_map holder_view c.args.around.now.holder) _ c.args.ops.now c.loop-place.place c.index-ops-place.result
    c.loop-place.count c.first_in_op.new.count _ c.in-Some.rule _ c.loop-place-test.true c.index-ops-place.is c.in_ok-rule.ensures c.in-Some.is c.loop-place.invariant

pub first_in_ops-loop-place-preserved : goal.first_in_ops-loop-place-preserved
first_in_ops-loop-place-preserved t c =
    one_kept (seen_by c.args.walk.now) (typed_by c.args.walk.now) (option_map holder_view c.args.around.now.holder) _ c.args.ops.now c.loop-place.place c.index-ops-place.result
    c.loop-place.count c.first_in_op.new.count _ _ c.loop-place-test.true c.index-ops-place.is c.in_ok-rule.ensures c.in-None.is c.loop-place.invariant
