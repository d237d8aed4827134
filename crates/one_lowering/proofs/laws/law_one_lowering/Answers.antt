use Rattle.one_lowering.proofs.Texts.{one_lowering}
use Rattle.one_lowering.proofs.laws.law_one_lowering.Goals as goal

pub returns : goal.returns
returns c = one_lowering
