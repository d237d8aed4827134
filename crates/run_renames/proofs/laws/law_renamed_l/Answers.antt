use Rattle.run_renames.proofs.RenamedModules.{renamed_l}
use Rattle.run_renames.proofs.laws.law_renamed_l.Goals as goal

pub returns : goal.returns
returns c = renamed_l
