use Rattle.conversion_model.proofs.WrittenLaws.{written_once}
use Rattle.conversion_model.proofs.laws.law_written_once.Goals as goal

pub returns : goal.returns
returns c = written_once
