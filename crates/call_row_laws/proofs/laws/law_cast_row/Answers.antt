use Rattle.call_row_laws.proofs.CallSets.{cast_row}
use Rattle.call_row_laws.proofs.laws.law_cast_row.Goals as goal

pub returns : goal.returns
returns c = cast_row
