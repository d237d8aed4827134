use Rattle.code_laws.proofs.SameCodes.{same_codes}
use Rattle.code_laws.proofs.laws.law_codes.Goals as goal

pub returns : goal.returns
returns c = same_codes
