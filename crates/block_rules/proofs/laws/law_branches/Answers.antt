use Rattle.block_rules.proofs.BranchLaws.{br_converted, cond_br_converted}
use Rattle.block_rules.proofs.laws.law_branches.Goals as goal

pub returns-clause-br : goal.returns-clause-br
returns-clause-br c = br_converted

pub returns-clause-cond_br : goal.returns-clause-cond_br
returns-clause-cond_br c = cond_br_converted
