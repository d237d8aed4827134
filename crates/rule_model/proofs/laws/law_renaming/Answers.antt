use Rattle.rule_model.proofs.RenamedModules.{verified_renames}
use Rattle.rule_model.proofs.laws.law_renaming.Goals as goal

pub returns : goal.returns
returns c = verified_renames
