use Rattle.std.proofs.Common.{arith}
use Rattle.std.proofs.lemmas.Grind.{common_steps}
use Rattle.edit_effects.proofs.EffectLaws.{operand_effect}
use Rattle.undo_rewriter.proofs.rewriter.Rewriter.set_operand.Goals as goal

pub returns-in-Ok-clause-tree : goal.returns-in-Ok-clause-tree
returns-in-Ok-clause-tree c = operand_effect c.args.self.now.now _ c.args.op c.args.at c.args.value (grind (arith, common_steps)) c.checkpoint-start.ensures.closed c.requires.op
