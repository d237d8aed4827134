use Rattle.std.proofs.Common.{◌∷◌, sym, ap}
use Rattle.use_paths.specs.Levels.{with_block}
use Rattle.use_paths.specs.Views.{spots_in}
use Rattle.use_paths.proofs.Stack.{moved_right, moved_spots}
use Rattle.use_paths.proofs.walk.Walk.begin.Goals as goal

pub returns-clause-right : goal.returns-clause-right
returns-clause-right c =
    moved_right c.args.self.now.levels.items c.pop.new.self.items c.push.new.self.items c.in-Some.level c.at_block.result c.in-Some.ensures.items c.in_ok-push.ensures.items c.requires c.at_block.ensures.right

pub returns-clause-spots : goal.returns-clause-spots
returns-clause-spots c =
    moved_spots (with_block c.args.label) c.args.self.now.levels.items c.pop.new.self.items c.push.new.self.items c.in-Some.level c.at_block.result c.in-Some.ensures.items c.in_ok-push.ensures.items
    (ap (λ s. s ∷ spots_in c.pop.new.self.items) (sym c.at_block.ensures.spot))
