use Rattle.guarded_row_laws.proofs.DimRow.{dim_row_holds}
use Rattle.guarded_row_laws.proofs.laws.law_dim_row.Goals as goal

pub returns : goal.returns
returns c = dim_row_holds
