use Rattle.std.proofs.Common.{arith}
use Rattle.std.proofs.lemmas.Grind.{common_steps}
use Rattle.undo_rewriter.specs.declared.step.Step.TheVariants.{BlockCut}
use Rattle.undo_rewriter.proofs.WriterLaws.{roomier_same, cut_done, done_sound, done_kept}
use Rattle.undo_rewriter.proofs.rewriter.Rewriter.cut_block.Goals as goal

pub invariant_of-self-in-Ok : goal.invariant_of-self-in-Ok
invariant_of-self-in-Ok c = done_sound c.self.inside.func.rooms c.cut_off.new.func.rooms c.self.inside.journal.items c.push.new.self.items (BlockCut c.args.block c.in_ok-blocks.blocks) c.self.inside.func.flat c.cut_off.new.func.flat (cut_done c.cut_off.new.func.rooms c.self.inside.func.rooms c.self.inside.func.flat c.cut_off.new.func.flat c.args.block c.args.at c.in_ok-blocks.blocks (grind (arith, common_steps)) (grind (arith, common_steps)) (grind (arith, common_steps)) (grind (arith, common_steps)) (grind (arith, common_steps)) (grind (arith, common_steps))) (grind (arith, common_steps)) c.self.invariant (roomier_same _ _ (grind (arith, common_steps))) c.cut_off.ensures.closed

pub returns-in-Ok-clause-kept : goal.returns-in-Ok-clause-kept
returns-in-Ok-clause-kept c = done_kept c.args.self.now _ c.cut_off.new.func.rooms (BlockCut c.args.block c.in_ok-blocks.blocks) (cut_done c.cut_off.new.func.rooms c.args.self.now.rooms c.args.self.now.now c.cut_off.new.func.flat c.args.block c.args.at c.in_ok-blocks.blocks (grind (arith, common_steps)) (grind (arith, common_steps)) (grind (arith, common_steps)) (grind (arith, common_steps)) (grind (arith, common_steps)) (grind (arith, common_steps))) (grind (arith, common_steps))
