use Rattle.row_laws.proofs.Sets.{cf_rows}
use Rattle.row_laws.proofs.laws.law_cf_rows.Goals as goal

pub returns : goal.returns
returns c = cf_rows
