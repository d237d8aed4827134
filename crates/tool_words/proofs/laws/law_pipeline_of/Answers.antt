use Rattle.tool_words.proofs.Stages.{is_pipeline_of}
use Rattle.tool_words.proofs.laws.law_pipeline_of.Goals as goal

pub returns : goal.returns
returns c = is_pipeline_of
