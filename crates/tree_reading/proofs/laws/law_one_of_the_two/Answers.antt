use Rattle.tree_reading.proofs.ReadingLaws.{one_of_the_two}
use Rattle.tree_reading.proofs.laws.law_one_of_the_two.Goals as goal

pub returns : goal.returns
returns c = one_of_the_two
