use Rattle.fold_model.proofs.Joined.{runs_are_folds}
use Rattle.fold_model.proofs.laws.law_runs_are_folds.Goals as goal

pub returns : goal.returns
returns c = runs_are_folds
