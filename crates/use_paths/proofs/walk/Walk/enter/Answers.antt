use Rattle.use_paths.proofs.Stack.{pushed_right}
use Rattle.use_paths.proofs.walk.Walk.enter.Goals as goal

pub returns-clause-right : goal.returns-clause-right
returns-clause-right c =
    pushed_right c.args.self.now.levels.items c.push.new.self.items (record { region = c.in_ok-region.region; block = 0; left = 0 }) c.in_ok-push.ensures.items c.requires c.in_ok-region.ensures.right
