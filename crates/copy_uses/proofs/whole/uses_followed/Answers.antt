use Rattle.plain_tree.specs.Ops.{plain_op}
use Rattle.copy_uses.proofs.FollowLaws.{none_followed}
use Rattle.copy_uses.proofs.whole.uses_followed.Goals as goal

pub returns-then-is_empty : goal.returns-then-is_empty
returns-then-is_empty c = none_followed c.args.pairs.now (plain_op c.args.op) c.if-is_empty.ensures
