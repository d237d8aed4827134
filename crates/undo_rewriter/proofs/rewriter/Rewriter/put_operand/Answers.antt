use Rattle.std.proofs.Common.{arith, [], get_or}
use Rattle.std.proofs.lemmas.Grind.{common_steps}
use Rattle.undo_rewriter.specs.declared.step.Step.TheVariants.{OperandSet}
use Rattle.undo_rewriter.proofs.WriterLaws.{roomier_same, operand_done, done_sound, done_kept}
use Rattle.undo_rewriter.proofs.rewriter.Rewriter.put_operand.Goals as goal

pub invariant_of-self-2 : goal.invariant_of-self-2
invariant_of-self-2 c = done_sound c.self.inside.func.rooms c.set_operand.new.self.rooms c.self.inside.journal.items c.push.new.self.items (OperandSet c.args.op c.args.at (get_or c.operands.result.now c.args.at 0)) c.self.inside.func.flat c.set_operand.new.self.flat (operand_done c.set_operand.new.self.rooms c.self.inside.func.flat c.set_operand.new.self.flat c.args.op c.args.at (get_or c.operands.result.now c.args.at 0) c.args.value (grind (arith, common_steps)) (grind (arith, common_steps)) (grind (arith, common_steps)) (grind (arith, common_steps))) (grind (arith, common_steps)) c.self.invariant (roomier_same _ _ (grind (arith, common_steps))) c.set_operand.ensures.closed

pub returns-clause-kept : goal.returns-clause-kept
returns-clause-kept c = done_kept c.args.self.now _ [] (OperandSet c.args.op c.args.at (get_or c.operands.result.now c.args.at 0)) (operand_done [] c.args.self.now.now c.set_operand.new.self.flat c.args.op c.args.at (get_or c.operands.result.now c.args.at 0) c.args.value (grind (arith, common_steps)) (grind (arith, common_steps)) (grind (arith, common_steps)) (grind (arith, common_steps))) (grind (arith, common_steps))
