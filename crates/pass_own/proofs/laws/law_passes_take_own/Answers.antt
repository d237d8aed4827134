use Rattle.pass_own.proofs.OwnLaws.{passes_take_own}
use Rattle.pass_own.proofs.laws.law_passes_take_own.Goals as goal

pub returns : goal.returns
returns c = passes_take_own
