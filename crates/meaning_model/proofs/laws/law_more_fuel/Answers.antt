use Rattle.meaning_model.proofs.Runs.{more_fuel, more_fuel_cells}
use Rattle.meaning_model.proofs.laws.law_more_fuel.Goals as goal

pub returns-clause-structured : goal.returns-clause-structured
returns-clause-structured c = more_fuel

pub returns-clause-cells : goal.returns-clause-cells
returns-clause-cells c = more_fuel_cells
