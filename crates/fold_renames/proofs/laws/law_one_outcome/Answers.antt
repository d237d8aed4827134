use Rattle.fold_renames.proofs.FoldRenames.{one_outcome}
use Rattle.fold_renames.proofs.laws.law_one_outcome.Goals as goal

pub returns : goal.returns
returns c = one_outcome
