use Rattle.rule_model.proofs.Decisions.{answer_right}
use Rattle.rule_model.proofs.laws.law_search.Goals as goal

pub returns : goal.returns
returns c = answer_right
