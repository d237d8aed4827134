use Rattle.read_numbers.proofs.ReadLaws.{read_once}
use Rattle.read_numbers.proofs.laws.law_read_once.Goals as goal

pub returns : goal.returns
returns c = read_once
