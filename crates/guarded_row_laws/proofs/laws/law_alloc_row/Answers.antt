use Rattle.guarded_row_laws.proofs.AllocRow.{alloc_row_holds}
use Rattle.guarded_row_laws.proofs.laws.law_alloc_row.Goals as goal

pub returns : goal.returns
returns c = alloc_row_holds
