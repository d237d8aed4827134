use Rattle.read_uses.proofs.Ranges.{index_in_range}
use Rattle.read_uses.proofs.laws.law_index_in_range.Goals as goal

pub returns : goal.returns
returns c = index_in_range
