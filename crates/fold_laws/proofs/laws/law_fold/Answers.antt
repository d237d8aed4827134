use Rattle.fold_laws.proofs.Folds.{fold_keeps}
use Rattle.fold_laws.proofs.laws.law_fold.Goals as goal

pub returns : goal.returns
returns c = fold_keeps
