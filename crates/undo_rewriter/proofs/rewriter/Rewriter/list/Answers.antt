use Rattle.std.proofs.Common.{arith, []}
use Rattle.std.proofs.lemmas.Grind.{common_steps}
use Rattle.undo_rewriter.specs.declared.step.Step.TheVariants.{OpListed}
use Rattle.undo_rewriter.proofs.WriterLaws.{listed_done, done_sound, done_kept}
use Rattle.undo_rewriter.proofs.rewriter.Rewriter.list.Goals as goal

pub invariant_of-self-in-Ok : goal.invariant_of-self-in-Ok
invariant_of-self-in-Ok c = done_sound c.self.inside.func.rooms c.list_op.new.self.rooms c.self.inside.journal.items c.push.new.self.items (OpListed c.args.block c.args.at) c.self.inside.func.flat c.list_op.new.self.flat (listed_done c.list_op.new.self.rooms c.self.inside.func.flat c.list_op.new.self.flat c.args.block c.args.at c.args.op (grind (arith, common_steps)) (grind (arith, common_steps)) (grind (arith, common_steps))) (grind (arith, common_steps)) c.self.invariant c.list_op.ensures.rooms c.list_op.ensures.closed

pub returns-in-Ok-clause-kept : goal.returns-in-Ok-clause-kept
returns-in-Ok-clause-kept c = done_kept c.args.self.now _ [] (OpListed c.args.block c.args.at) (listed_done [] c.args.self.now.now c.list_op.new.self.flat c.args.block c.args.at c.args.op (grind (arith, common_steps)) (grind (arith, common_steps)) (grind (arith, common_steps))) (grind (arith, common_steps))
