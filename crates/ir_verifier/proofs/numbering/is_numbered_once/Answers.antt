use Rattle.plain_tree.specs.Ops.{plain_op}
use Rattle.ir_verifier.proofs.Numbers.{values_once, values_twice}
use Rattle.ir_verifier.proofs.numbering.is_numbered_once.Goals as goal

pub returns-in_ok-labels_once : goal.returns-in_ok-labels_once
returns-in_ok-labels_once c = values_once (plain_op c.args.op.now) _ _ c.in_ok-values.ensures c.if-values.true c.in_ok-labels_once.ensures

pub returns-else-values : goal.returns-else-values
returns-else-values c = values_twice (plain_op c.args.op.now) _ c.in_ok-values.ensures c.if-values.false
