use Rattle.std.proofs.Common.{arith, []}
use Rattle.std.proofs.lemmas.Grind.{common_steps}
use Rattle.undo_rewriter.specs.declared.step.Step.TheVariants.{OpAdded}
use Rattle.undo_rewriter.proofs.WriterLaws.{roomier_same, added_done, done_sound, done_kept}
use Rattle.undo_rewriter.proofs.rewriter.Rewriter.add.Goals as goal

pub invariant_of-self-in-Ok : goal.invariant_of-self-in-Ok
invariant_of-self-in-Ok c = done_sound c.self.inside.func.rooms c.add_op.new.self.rooms c.self.inside.journal.items c.push.new.self.items (OpAdded c.in_ok-values.values) c.self.inside.func.flat c.add_op.new.self.flat (added_done c.add_op.new.self.rooms c.self.inside.func.flat c.add_op.new.self.flat c.args.node c.args.types.now c.in_ok-values.values (grind (arith, common_steps)) (grind (arith, common_steps))) (grind (arith, common_steps)) c.self.invariant (roomier_same _ _ (grind (arith, common_steps))) c.add_op.ensures.closed

pub returns-in-Ok-clause-kept : goal.returns-in-Ok-clause-kept
returns-in-Ok-clause-kept c = done_kept c.args.self.now _ [] (OpAdded c.in_ok-values.values) (added_done [] c.args.self.now.now c.add_op.new.self.flat c.args.node c.args.types.now c.in_ok-values.values (grind (arith, common_steps)) (grind (arith, common_steps))) (grind (arith, common_steps))
