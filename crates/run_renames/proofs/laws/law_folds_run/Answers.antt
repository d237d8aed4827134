use Rattle.run_renames.proofs.RenamedModules.{folds_run}
use Rattle.run_renames.proofs.laws.law_folds_run.Goals as goal

pub returns : goal.returns
returns c = folds_run
