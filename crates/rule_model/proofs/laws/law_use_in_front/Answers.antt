use Rattle.rule_model.proofs.InFront.{use_in_front}
use Rattle.rule_model.proofs.laws.law_use_in_front.Goals as goal

pub returns : goal.returns
returns c = use_in_front
