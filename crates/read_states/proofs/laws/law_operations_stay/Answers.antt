use Rattle.read_states.proofs.Bodies.{ops_stay}
use Rattle.read_states.proofs.laws.law_operations_stay.Goals as goal

pub returns : goal.returns
returns c = λ words class numbers n m x y ops e. ops_stay words class numbers n m ops e
