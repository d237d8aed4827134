use Rattle.std.proofs.Common.{arith}
use Rattle.std.proofs.lemmas.Grind.{common_steps}
use Rattle.ir_arena.specs.Building.{nodes_of}
use Rattle.ir_arena.proofs.FinishLaws.{closed_at_last}
use Rattle.ir_arena.proofs.from_trees.finished.Goals as goal

pub invariant_of-result : goal.invariant_of-result
invariant_of-result c = closed_at_last (nodes_of c.args.b) c.args.root _ _ (grind (arith, common_steps)) (grind (arith, common_steps)) c.requires.root c.requires.within
