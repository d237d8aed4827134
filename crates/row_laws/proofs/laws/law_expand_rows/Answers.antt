use Rattle.row_laws.proofs.Sets.{expand_rows}
use Rattle.row_laws.proofs.laws.law_expand_rows.Goals as goal

pub returns : goal.returns
returns c = expand_rows
