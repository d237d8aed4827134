use Rattle.std.proofs.Common.{arith, []}
use Rattle.std.proofs.lemmas.Grind.{common_steps}
use Rattle.undo_rewriter.specs.declared.step.Step.TheVariants.{BlockAdded}
use Rattle.undo_rewriter.proofs.WriterLaws.{roomier_same, block_done, done_sound, done_kept}
use Rattle.undo_rewriter.proofs.rewriter.Rewriter.push_block.Goals as goal

pub invariant_of-self-in-Ok : goal.invariant_of-self-in-Ok
invariant_of-self-in-Ok c = done_sound c.self.inside.func.rooms c.add_block.new.self.rooms c.self.inside.journal.items c.push.new.self.items (BlockAdded c.in_ok-blocks.blocks) c.self.inside.func.flat c.add_block.new.self.flat (block_done c.add_block.new.self.rooms c.self.inside.func.flat c.add_block.new.self.flat c.in_ok-blocks.blocks (grind (arith, common_steps)) (grind (arith, common_steps))) (grind (arith, common_steps)) c.self.invariant (roomier_same _ _ (grind (arith, common_steps))) c.add_block.ensures.closed

pub returns-in-Ok-clause-kept : goal.returns-in-Ok-clause-kept
returns-in-Ok-clause-kept c = done_kept c.args.self.now _ [] (BlockAdded c.in_ok-blocks.blocks) (block_done [] c.args.self.now.now c.add_block.new.self.flat c.in_ok-blocks.blocks (grind (arith, common_steps)) (grind (arith, common_steps))) (grind (arith, common_steps))
