use Rattle.tree_reading.proofs.ReadingLaws.{one_module, same_module}
use Rattle.tree_reading.proofs.laws.law_one_module.Goals as goal

pub returns : goal.returns
returns c = record { one = one_module; same = same_module }
