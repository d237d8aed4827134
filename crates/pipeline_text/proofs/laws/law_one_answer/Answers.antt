use Rattle.pipeline_text.proofs.Answers.{one_answer}
use Rattle.pipeline_text.proofs.laws.law_one_answer.Goals as goal

pub returns : goal.returns
returns c = one_answer
