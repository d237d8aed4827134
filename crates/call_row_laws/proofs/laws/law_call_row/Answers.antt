use Rattle.call_row_laws.proofs.CallRow.{call_row_holds}
use Rattle.call_row_laws.proofs.laws.law_call_row.Goals as goal

pub returns : goal.returns
returns c = call_row_holds
