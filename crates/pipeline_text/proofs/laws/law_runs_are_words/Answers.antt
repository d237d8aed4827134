use Rattle.pipeline_text.proofs.Spelled.{runs_are_words}
use Rattle.pipeline_text.proofs.laws.law_runs_are_words.Goals as goal

pub returns : goal.returns
returns c = runs_are_words
