use Rattle.use_paths.specs.Views.{spots_in}
use Rattle.use_paths.proofs.Stack.{op_passes}
use Rattle.use_paths.proofs.walk.+walk_op.Goals as goal

pub walk_op-returns-clause-ahead : goal.walk_op-returns-clause-ahead
walk_op-returns-clause-ahead t c =
    op_passes (spots_in c.args.walk.now.levels.items) (spots_in c.look.new.self.levels.items) c.args.op.now c.as_slice-operands.result.now c.as_slice-regions.result.now
    c.args.walk.now.count c.look.new.self.count c.walk_regions.new.walk.count c.args.walk.now.found c.look.new.self.found c.walk_regions.new.walk.found
    c.as_slice-operands.ensures c.as_slice-regions.ensures c.in_ok-look.ensures.kept c.in_ok-look.ensures.ahead c.in_ok-walk_regions.ensures.ahead
