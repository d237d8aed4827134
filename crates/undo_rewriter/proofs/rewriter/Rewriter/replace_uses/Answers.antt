use Rattle.std.proofs.Common.{arith}
use Rattle.std.proofs.lemmas.Grind.{common_steps}
use Rattle.edit_effects.proofs.UseLaws.{uses_effect}
use Rattle.undo_rewriter.proofs.rewriter.Rewriter.replace_uses.Goals as goal

pub returns-in-Ok-clause-tree : goal.returns-in-Ok-clause-tree
returns-in-Ok-clause-tree c = uses_effect c.args.from c.args.to c.args.self.now.now _ (grind (arith, common_steps)) c.checkpoint-start.ensures.closed
