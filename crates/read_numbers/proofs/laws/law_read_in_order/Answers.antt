use Rattle.read_numbers.proofs.ReadLaws.{read_in_order}
use Rattle.read_numbers.proofs.laws.law_read_in_order.Goals as goal

pub returns : goal.returns
returns c = read_in_order
