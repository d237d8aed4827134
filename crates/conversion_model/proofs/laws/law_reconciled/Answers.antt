use Rattle.conversion_model.proofs.ReconcileLaws.{no_pair_left, no_unused_cast}
use Rattle.conversion_model.proofs.UnusedLaws.{no_pair_behind}
use Rattle.conversion_model.proofs.laws.law_reconciled.Goals as goal

pub returns-clause-pairs : goal.returns-clause-pairs
returns-clause-pairs c = no_pair_left

pub returns-clause-unused : goal.returns-clause-unused
returns-clause-unused c = no_unused_cast

pub returns-clause-behind : goal.returns-clause-behind
returns-clause-behind c = no_pair_behind
