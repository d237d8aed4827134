use Rattle.plain_tree.specs.Ops.{plain_op}
use Rattle.use_paths.specs.Views.{spots_in}
use Rattle.use_paths.proofs.Stack.{from_start}
use Rattle.use_paths.proofs.walk.first_missed.Goals as goal

pub returns : goal.returns
returns c =
    from_start (spots_in c.new-walk.result.levels.items) (plain_op c.args.function.now) c.new-walk.result.count c.walk_op.new.walk.count c.new-walk.result.found c.walk_op.new.walk.found
    c.new-walk.ensures.spots c.new-walk.ensures.count c.new-walk.ensures.found c.in_ok-walk_op.ensures.ahead
