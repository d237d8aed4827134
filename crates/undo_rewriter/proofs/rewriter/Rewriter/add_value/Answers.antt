use Rattle.std.proofs.Common.{arith, []}
use Rattle.std.proofs.lemmas.Grind.{common_steps}
use Rattle.undo_rewriter.specs.declared.step.Step.TheVariants.{ValueAdded}
use Rattle.undo_rewriter.proofs.WriterLaws.{roomier_same, value_done, done_sound, done_kept}
use Rattle.undo_rewriter.proofs.rewriter.Rewriter.add_value.Goals as goal

pub invariant_of-self-in-Ok : goal.invariant_of-self-in-Ok
invariant_of-self-in-Ok c = done_sound c.self.inside.func.rooms c.add_value.new.self.rooms c.self.inside.journal.items c.push.new.self.items (ValueAdded c.in_ok-values.values) c.self.inside.func.flat c.add_value.new.self.flat (value_done c.add_value.new.self.rooms c.self.inside.func.flat c.add_value.new.self.flat c.args.ty c.in_ok-values.values (grind (arith, common_steps)) (grind (arith, common_steps))) (grind (arith, common_steps)) c.self.invariant (roomier_same _ _ (grind (arith, common_steps))) c.add_value.ensures.closed

pub returns-in-Ok-clause-kept : goal.returns-in-Ok-clause-kept
returns-in-Ok-clause-kept c = done_kept c.args.self.now _ [] (ValueAdded c.in_ok-values.values) (value_done [] c.args.self.now.now c.add_value.new.self.flat c.args.ty c.in_ok-values.values (grind (arith, common_steps)) (grind (arith, common_steps))) (grind (arith, common_steps))
