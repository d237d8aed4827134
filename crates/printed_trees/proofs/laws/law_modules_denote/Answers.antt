use Rattle.printed_trees.proofs.ModuleTrees.{modules_denote}
use Rattle.printed_trees.proofs.laws.law_modules_denote.Goals as goal

pub returns : goal.returns
returns c = modules_denote
