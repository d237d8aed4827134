use Rattle.pass_laws.proofs.Meaning.{conversions_keep}
use Rattle.pass_laws.proofs.laws.law_conversion.Goals as goal

pub returns : goal.returns
returns c = conversions_keep
