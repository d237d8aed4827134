use Rattle.row_numbers.proofs.Extremes.{extremes}
use Rattle.row_numbers.proofs.laws.law_extremes.Goals as goal

pub returns : goal.returns
returns c = extremes
