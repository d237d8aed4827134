use Rattle.cast_laws.proofs.Pairs.{casts_keep}
use Rattle.cast_laws.proofs.laws.law_casts.Goals as goal

pub returns : goal.returns
returns c = casts_keep
