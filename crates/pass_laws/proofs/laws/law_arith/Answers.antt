use Rattle.pass_laws.proofs.Meaning.{arith_keeps}
use Rattle.pass_laws.proofs.laws.law_arith.Goals as goal

pub returns : goal.returns
returns c = arith_keeps
