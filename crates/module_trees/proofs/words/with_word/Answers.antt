use Rattle.std.proofs.Common.{◌≡◌, ◌∷◌, reverse, arith}
use Rattle.std.proofs.lemmas.Grind.{common_steps}
use Rattle.module_trees.proofs.StepLaws.{put_within}
use Rattle.module_trees.proofs.words.with_word.Goals as goal

pub returns-in_ok-push-in-RegionClose-clause-within : goal.returns-in_ok-push-in-RegionClose-clause-within
returns-in_ok-push-in-RegionClose-clause-within c =
    let put : reverse c.push.new.self.items ≡ c.empty.result ∷ reverse c.args.levels.now.items = grind (arith, common_steps) in
    put_within _ (reverse c.args.levels.now.items) (reverse c.push.new.self.items) c.empty.result c.requires.within (c.empty.ensures.within _) put
