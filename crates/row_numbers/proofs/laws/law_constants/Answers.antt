use Rattle.row_numbers.proofs.Readings.{keeps_constants}
use Rattle.row_numbers.proofs.laws.law_constants.Goals as goal

pub returns : goal.returns
returns c = keeps_constants
