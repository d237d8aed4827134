use Rattle.text_types.proofs.PlainLaws.{one_number}
use Rattle.text_types.proofs.laws.law_one_number_for_a_type.Goals as goal

pub returns : goal.returns
returns c = one_number
