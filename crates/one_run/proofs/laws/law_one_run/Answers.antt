use Rattle.one_run.proofs.Runs.{one_run}
use Rattle.one_run.proofs.laws.law_one_run.Goals as goal

pub returns : goal.returns
returns c = one_run
