use Rattle.ir_verifier.proofs.Verdicts.{one_verdict}
use Rattle.ir_verifier.proofs.laws.law_one_verdict.Goals as goal

pub returns : goal.returns
returns c = one_verdict
