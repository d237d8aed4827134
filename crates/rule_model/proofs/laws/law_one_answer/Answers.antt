use Rattle.rule_model.proofs.Firsts.{one_answer}
use Rattle.rule_model.proofs.laws.law_one_answer.Goals as goal

pub returns : goal.returns
returns c = one_answer
