use Rattle.named_trees.proofs.NamedOps.{names_are_once}
use Rattle.named_trees.proofs.law_names_are_once.Goals as goal

pub returns : goal.returns
returns c = names_are_once
