use Rattle.pipeline_text.proofs.Unnamed.{no_option_in_texts}
use Rattle.pipeline_text.proofs.laws.law_no_option_in_texts.Goals as goal

pub returns : goal.returns
returns c = no_option_in_texts
