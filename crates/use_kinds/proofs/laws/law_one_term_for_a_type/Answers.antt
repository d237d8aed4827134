use Rattle.use_kinds.proofs.SameLaws.{one_term}
use Rattle.use_kinds.proofs.laws.law_one_term_for_a_type.Goals as goal

pub returns : goal.returns
returns c = one_term
