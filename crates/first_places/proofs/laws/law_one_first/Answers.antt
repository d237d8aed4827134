use Rattle.first_places.proofs.Firsts.{one}
use Rattle.first_places.proofs.laws.law_one_first.Goals as goal

pub returns : goal.returns
returns c = one
