use Rattle.std.proofs.Common.{arith}
use Rattle.std.proofs.lemmas.Grind.{common_steps}
use Rattle.edit_effects.proofs.EffectLaws.{renamed_effect}
use Rattle.undo_rewriter.proofs.rewriter.Rewriter.set_root.Goals as goal

pub returns-in-Ok-clause-tree : goal.returns-in-Ok-clause-tree
returns-in-Ok-clause-tree c = renamed_effect c.args.self.now.now _ c.args.self.now.now.root c.args.name c.args.props (grind (arith, common_steps)) c.checkpoint-start.ensures.closed c.checkpoint-start.ensures.closed.root
