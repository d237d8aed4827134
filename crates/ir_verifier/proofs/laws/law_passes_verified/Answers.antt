use Rattle.ir_verifier.proofs.Verdicts.{passes_verified}
use Rattle.ir_verifier.proofs.laws.law_passes_verified.Goals as goal

pub returns : goal.returns
returns c = passes_verified
