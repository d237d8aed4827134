use Rattle.read_states.proofs.Stages.{file_after}
use Rattle.read_states.proofs.laws.law_nothing_behind.Goals as goal

pub returns : goal.returns
returns c = λ words class numbers x y file after. (file_after words class numbers file after).same.ops
