use Rattle.pass_laws.proofs.Meaning.{cf_keeps}
use Rattle.pass_laws.proofs.laws.law_cf.Goals as goal

pub returns : goal.returns
returns c = cf_keeps
