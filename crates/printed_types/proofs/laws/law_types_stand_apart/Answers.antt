use Rattle.printed_types.proofs.ApartLemmas.{type_apart}
use Rattle.printed_types.proofs.laws.law_types_stand_apart.Goals as goal

pub returns : goal.returns
returns c = type_apart
