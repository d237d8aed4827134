use Rattle.driver_cases.proofs.TableLaws.{own}
use Rattle.driver_cases.proofs.passes.converted.Goals as goal

pub convert-requires-clause-own : goal.convert-requires-clause-own
convert-requires-clause-own c = own 64 c.in_ok-rows.rows.entries.now
