use Rattle.text_types.proofs.PlainLaws.{type_is}
use Rattle.text_types.proofs.laws.law_type_of_term.Goals as goal

pub returns : goal.returns
returns c = type_is
