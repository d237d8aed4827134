use Rattle.std.proofs.Common.{◌≡◌, ◌∷◌, reverse, arith, ap, ◌∙◌}
use Rattle.std.proofs.lemmas.Grind.{common_steps}
use Rattle.module_trees.proofs.StepLaws.{close_within}
use Rattle.module_trees.proofs.words.close_over.Goals as goal

pub returns-in_ok-push-in-Some-pop-clause-within : goal.returns-in_ok-push-in-Some-pop-clause-within
returns-in_ok-push-in-Some-pop-clause-within c =
    let first : reverse c.args.levels.now.items ≡ c.in-Some.inner ∷ reverse c.pop.new.self.items = grind (arith, common_steps) in
    let second : reverse c.pop.new.self.items ≡ c.in-Some-pop.outer ∷ reverse c.pop-2.new.self.items = grind (arith, common_steps) in
    let put : reverse c.push.new.self.items ≡ c.in_ok-with_region-in-Some-pop.field-0 ∷ reverse c.pop-2.new.self.items = grind (arith, common_steps) in
    close_within _ (reverse c.args.levels.now.items) (reverse c.push.new.self.items) (reverse c.pop-2.new.self.items) c.in-Some.inner c.in-Some-pop.outer c.in_ok-with_region-in-Some-pop.field-0
    c.requires (first ∙ ap (λ ls. c.in-Some.inner ∷ ls) second) put (c.in_ok-with_region-in-Some-pop.ensures.within _)
