use Rattle.sound_model.proofs.Agreeing.{agreements_join, agrees_with_itself}
use Rattle.sound_model.proofs.laws.law_agreement.Goals as goal

pub returns-clause-itself : goal.returns-clause-itself
returns-clause-itself c = agrees_with_itself

pub returns-clause-joined : goal.returns-clause-joined
returns-clause-joined c = agreements_join
