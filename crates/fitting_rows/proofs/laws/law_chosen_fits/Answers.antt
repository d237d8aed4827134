use Rattle.fitting_rows.proofs.ChosenFits.{arith_chosen, expand_chosen}
use Rattle.fitting_rows.proofs.laws.law_chosen_fits.Goals as goal

pub returns-clause-expand : goal.returns-clause-expand
returns-clause-expand c = expand_chosen

pub returns-clause-arith : goal.returns-clause-arith
returns-clause-arith c = arith_chosen
