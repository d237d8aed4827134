use Rattle.scoped_trees.proofs.Modules.{uses_are_served}
use Rattle.scoped_trees.proofs.law_uses_are_served.Goals as goal

pub returns : goal.returns
returns c = uses_are_served
