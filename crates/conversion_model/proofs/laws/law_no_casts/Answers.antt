use Rattle.conversion_model.proofs.CastLaws.{no_casts}
use Rattle.conversion_model.proofs.laws.law_no_casts.Goals as goal

pub returns : goal.returns
returns c = no_casts
