use Rattle.plain_tree.proofs.OpOpens.{op_again}
use Rattle.plain_tree.proofs.laws.law_plain_of_tree.Goals as goal

pub returns : goal.returns
returns c = op_again
