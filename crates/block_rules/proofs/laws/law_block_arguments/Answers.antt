use Rattle.block_rules.proofs.BlockFormed.{blocks_keep_formed}
use Rattle.block_rules.proofs.BlockUses.{blocks_keep_defined, blocks_keep_own}
use Rattle.block_rules.proofs.laws.law_block_arguments.Goals as goal

pub returns-clause-defined : goal.returns-clause-defined
returns-clause-defined c = blocks_keep_defined

pub returns-clause-own : goal.returns-clause-own
returns-clause-own c = blocks_keep_own

pub returns-clause-formed : goal.returns-clause-formed
returns-clause-formed c = blocks_keep_formed
