use Rattle.conversion_model.proofs.OnceConversion.{conversion_once}
use Rattle.conversion_model.proofs.laws.law_defined_once.Goals as goal

pub returns : goal.returns
returns c = conversion_once
