use Rattle.pattern_model.proofs.PassRenames.{supplies_agree}
use Rattle.pattern_model.proofs.laws.law_renaming.Goals as goal

pub returns : goal.returns
returns c = supplies_agree
