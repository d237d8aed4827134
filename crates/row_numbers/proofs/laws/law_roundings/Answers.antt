use Rattle.row_numbers.proofs.Quotients.{roundings}
use Rattle.row_numbers.proofs.laws.law_roundings.Goals as goal

pub returns : goal.returns
returns c = roundings
