use Rattle.run_renames.proofs.RenamedModules.{renamed_s}
use Rattle.run_renames.proofs.laws.law_renamed_s.Goals as goal

pub returns : goal.returns
returns c = renamed_s
