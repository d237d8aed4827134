use Rattle.kept_rules.proofs.Folds.{fold_verified}
use Rattle.kept_rules.proofs.laws.law_fold_verified.Goals as goal

pub returns : goal.returns
returns c = fold_verified
