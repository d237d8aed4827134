use Rattle.std.proofs.Common.{◌≡◌, ◌∷◌, reverse, arith}
use Rattle.std.proofs.lemmas.Grind.{common_steps}
use Rattle.event_trees.specs.Levels.{region_opened}
use Rattle.module_trees.specs.Views.{level_of}
use Rattle.module_trees.proofs.StepLaws.{region_put}
use Rattle.module_trees.proofs.levels.with_region.Goals as goal

pub returns-clause-is : goal.returns-clause-is
returns-clause-is c nodes =
    let put : reverse c.push.new.self.items ≡ c.in_ok-region.region ∷ reverse c.args.outer.parts.regions.items = grind (arith, common_steps) in
    region_put nodes c.args.outer c.push.new.self.items c.in_ok-region.region (region_opened c.args.label (level_of nodes c.args.inner)) put (c.in_ok-region.ensures nodes)
