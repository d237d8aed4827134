use Rattle.read_states.proofs.Forms.{ops_inside}
use Rattle.read_states.proofs.laws.law_operations_leave.Goals as goal

pub returns : goal.returns
returns c = λ words class numbers x y ops. let i = ops_inside words class numbers ops in (i.below_is, i.waits_is)
