use Rattle.std.proofs.Common.{refl}
use Rattle.tree_reconcile.proofs.laws.law_chain.Goals as goal

pub returns : goal.returns
returns c = refl
