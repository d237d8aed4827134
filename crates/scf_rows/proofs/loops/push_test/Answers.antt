use Rattle.scf_rows.proofs.ProductLaws.{head_made}
use Rattle.scf_rows.proofs.loops.push_test.Goals as goal

pub returns : goal.returns
returns c =
    head_made c.args.bounds.lower c.args.bounds.upper c.args.body c.args.bounds.initial.now c.args.args.now c.args.counter.now c.in_ok-loop_values.field-0 c.in_ok-loop_values-2.field-0 c.in_ok-known.known c.in_ok-passed.passed
    c.in_ok-branch.field-0 c.in_ok-compare.field-0 c.in_ok-conditional.field-0 c.args.pieces.now c.push.new.self c.open.new.pieces c.push-2.new.self c.push-3.new.self
    c.in_ok-loop_values.ensures c.in_ok-loop_values-2.ensures c.in_ok-known.ensures c.in_ok-passed.ensures c.in_ok-branch.ensures c.in_ok-compare.ensures c.in_ok-conditional.ensures
    c.in_ok-push.ensures.ok c.in_ok-open.ensures c.in_ok-push-2.ensures.ok c.in_ok-push-3.ensures.ok
