use Rattle.std.proofs.Common.{arith}
use Rattle.std.proofs.lemmas.Grind.{common_steps}
use Rattle.edit_effects.proofs.EffectLaws.{arg_added_effect}
use Rattle.undo_rewriter.proofs.rewriter.Rewriter.add_arg.Goals as goal

pub returns-in-Ok-clause-tree : goal.returns-in-Ok-clause-tree
returns-in-Ok-clause-tree c = arg_added_effect c.args.self.now.now _ c.args.block c.args.at c.args.ty (grind (arith, common_steps)) c.checkpoint-start.ensures.closed c.requires.block
