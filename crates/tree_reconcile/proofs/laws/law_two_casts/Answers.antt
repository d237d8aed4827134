use Rattle.std.proofs.Common.{refl}
use Rattle.tree_reconcile.proofs.laws.law_two_casts.Goals as goal

pub returns : goal.returns
returns c = refl
