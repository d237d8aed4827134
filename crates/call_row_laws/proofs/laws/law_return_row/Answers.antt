use Rattle.call_row_laws.proofs.CallSets.{return_row}
use Rattle.call_row_laws.proofs.laws.law_return_row.Goals as goal

pub returns : goal.returns
returns c = return_row
