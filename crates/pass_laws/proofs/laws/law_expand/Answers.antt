use Rattle.pass_laws.proofs.Meaning.{expand_keeps}
use Rattle.pass_laws.proofs.laws.law_expand.Goals as goal

pub returns : goal.returns
returns c = expand_keeps
