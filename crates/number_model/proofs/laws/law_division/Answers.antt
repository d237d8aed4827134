use Rattle.number_model.proofs.Ranges.{divides_down, divides_towards_zero, divides_up}
use Rattle.number_model.proofs.laws.law_division.Goals as goal

pub returns-clause-towards_zero : goal.returns-clause-towards_zero
returns-clause-towards_zero c = divides_towards_zero

pub returns-clause-up : goal.returns-clause-up
returns-clause-up c = divides_up

pub returns-clause-down : goal.returns-clause-down
returns-clause-down c = divides_down
