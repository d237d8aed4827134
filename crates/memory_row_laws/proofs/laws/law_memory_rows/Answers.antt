use Rattle.memory_row_laws.proofs.MemorySet.{memory_rows}
use Rattle.memory_row_laws.proofs.laws.law_memory_rows.Goals as goal

pub returns : goal.returns
returns c = memory_rows
