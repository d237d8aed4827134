use Rattle.row_laws.proofs.Sets.{arith_rows}
use Rattle.row_laws.proofs.laws.law_arith_rows.Goals as goal

pub returns : goal.returns
returns c = arith_rows
