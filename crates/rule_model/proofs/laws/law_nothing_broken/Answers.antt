use Rattle.rule_model.proofs.Firsts.{nothing_broken}
use Rattle.rule_model.proofs.laws.law_nothing_broken.Goals as goal

pub returns : goal.returns
returns c = nothing_broken
