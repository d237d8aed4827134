use Rattle.std.proofs.Common.{arith, []}
use Rattle.std.proofs.lemmas.Grind.{common_steps}
use Rattle.undo_rewriter.specs.declared.step.Step.TheVariants.{BlocksListed}
use Rattle.undo_rewriter.proofs.WriterLaws.{roomier_same, put_blocks_done, done_sound, done_kept}
use Rattle.undo_rewriter.proofs.rewriter.Rewriter.put_blocks_in.Goals as goal

pub invariant_of-self-in-Ok-list_blocks : goal.invariant_of-self-in-Ok-list_blocks
invariant_of-self-in-Ok-list_blocks c = done_sound c.self.inside.func.rooms c.list_blocks.new.func.rooms c.self.inside.journal.items c.push.new.self.items (BlocksListed c.args.region c.args.at c.in-Ok.count) c.self.inside.func.flat c.list_blocks.new.func.flat (put_blocks_done c.list_blocks.new.func.rooms c.self.inside.func.flat c.list_blocks.new.func.flat c.args.region c.args.at c.in-Ok.count c.args.blocks.now (grind (arith, common_steps)) (grind (arith, common_steps)) (grind (arith, common_steps)) (grind (arith, common_steps))) (grind (arith, common_steps)) c.self.invariant (roomier_same _ _ c.list_blocks.ensures.rooms) c.list_blocks.ensures.closed

pub returns-in-Ok-list_blocks-clause-kept : goal.returns-in-Ok-list_blocks-clause-kept
returns-in-Ok-list_blocks-clause-kept c = done_kept c.args.self.now _ [] (BlocksListed c.args.region c.args.at c.in-Ok.count) (put_blocks_done [] c.args.self.now.now c.list_blocks.new.func.flat c.args.region c.args.at c.in-Ok.count c.args.blocks.now (grind (arith, common_steps)) (grind (arith, common_steps)) (grind (arith, common_steps)) (grind (arith, common_steps))) (grind (arith, common_steps))
