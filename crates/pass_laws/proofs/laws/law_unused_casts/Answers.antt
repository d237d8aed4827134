use Rattle.pass_laws.proofs.UnusedCasts.{unused_casts_keep}
use Rattle.pass_laws.proofs.laws.law_unused_casts.Goals as goal

pub returns : goal.returns
returns c = unused_casts_keep
