use Rattle.std.proofs.Common.{arith, []}
use Rattle.std.proofs.lemmas.Grind.{common_steps}
use Rattle.undo_rewriter.specs.declared.step.Step.TheVariants.{BlocksSet}
use Rattle.undo_rewriter.proofs.WriterLaws.{roomier_same, blocks_done, done_sound, done_kept}
use Rattle.undo_rewriter.proofs.rewriter.Rewriter.put_blocks.Goals as goal

pub invariant_of-self-2 : goal.invariant_of-self-2
invariant_of-self-2 c = done_sound c.self.inside.func.rooms c.exchange_blocks.new.self.rooms c.self.inside.journal.items c.push.new.self.items (BlocksSet c.args.region c.in_ok-held.held) c.self.inside.func.flat c.exchange_blocks.new.self.flat (blocks_done c.exchange_blocks.new.self.rooms c.self.inside.func.flat c.exchange_blocks.new.self.flat c.args.region c.args.blocks.items c.in_ok-held.held (grind (arith, common_steps)) (grind (arith, common_steps)) (grind (arith, common_steps))) (grind (arith, common_steps)) c.self.invariant (roomier_same _ _ (grind (arith, common_steps))) c.exchange_blocks.ensures.closed

pub returns-clause-kept : goal.returns-clause-kept
returns-clause-kept c = done_kept c.args.self.now _ [] (BlocksSet c.args.region c.in_ok-held.held) (blocks_done [] c.args.self.now.now c.exchange_blocks.new.self.flat c.args.region c.args.blocks.items c.in_ok-held.held (grind (arith, common_steps)) (grind (arith, common_steps)) (grind (arith, common_steps))) (grind (arith, common_steps))
