use Rattle.chosen_laws.proofs.ChosenLaws.{chosen_sound}
use Rattle.chosen_laws.proofs.laws.law_chosen.Goals as goal

pub returns : goal.returns
returns c = chosen_sound
