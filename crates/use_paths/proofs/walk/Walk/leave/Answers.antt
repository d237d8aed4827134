use Rattle.use_paths.proofs.Stack.{empty_by, left_right, left_spots}
use Rattle.use_paths.proofs.walk.Walk.leave.Goals as goal

pub returns-clause-right : goal.returns-clause-right
returns-clause-right c = left_right c.args.self.now.levels.items c.pop.new.self.items c.pop.result c.pop.ensures.items c.requires

pub returns-clause-spots : goal.returns-clause-spots
returns-clause-spots c =
    left_spots c.args.self.now.levels.items c.pop.new.self.items c.pop.result c.pop.ensures.items
    (empty_by c.pop.result _ _ c.args.self.now.levels.ok.0 c.pop.ensures.variant.1)
