use Rattle.std.proofs.Common.{arith}
use Rattle.std.proofs.lemmas.Grind.{common_steps}
use Rattle.undo_rewriter.specs.declared.step.Step.TheVariants.{OpUnlisted}
use Rattle.undo_rewriter.proofs.WriterLaws.{unlisted_done, done_sound, done_kept}
use Rattle.undo_rewriter.proofs.rewriter.Rewriter.unlist.Goals as goal

pub invariant_of-self-2 : goal.invariant_of-self-2
invariant_of-self-2 c = done_sound c.self.inside.func.rooms c.unlist_op.new.self.rooms c.self.inside.journal.items c.push.new.self.items (OpUnlisted c.args.block c.args.at c.op_at-op.result) c.self.inside.func.flat c.unlist_op.new.self.flat (unlisted_done c.unlist_op.new.self.rooms c.self.inside.func.flat c.unlist_op.new.self.flat c.args.block c.args.at c.op_at-op.result (grind (arith, common_steps)) (grind (arith, common_steps)) (grind (arith, common_steps)) (grind (arith, common_steps)) (grind (arith, common_steps))) (grind (arith, common_steps)) c.self.invariant c.unlist_op.ensures.rooms c.unlist_op.ensures.closed

pub returns-clause-kept : goal.returns-clause-kept
returns-clause-kept c = done_kept c.args.self.now _ c.unlist_op.new.self.rooms (OpUnlisted c.args.block c.args.at c.op_at-op.result) (unlisted_done c.unlist_op.new.self.rooms c.args.self.now.now c.unlist_op.new.self.flat c.args.block c.args.at c.op_at-op.result (grind (arith, common_steps)) (grind (arith, common_steps)) (grind (arith, common_steps)) (grind (arith, common_steps)) (grind (arith, common_steps))) (grind (arith, common_steps))
