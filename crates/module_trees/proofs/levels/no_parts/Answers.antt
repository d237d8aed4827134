use Rattle.std.proofs.Common.{rules}
use Rattle.module_trees.proofs.StepLaws.{no_parts_is}
use Rattle.module_trees.proofs.levels.no_parts.Goals as goal

pub returns-clause-is : goal.returns-clause-is
returns-clause-is c nodes = no_parts_is nodes c.new.result.items c.new-2.result.items c.new-3.result.items (search rules) (search rules) (search rules)
