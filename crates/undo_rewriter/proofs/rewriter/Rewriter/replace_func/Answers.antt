use Rattle.std.proofs.Common.{arith, [], refl}
use Rattle.std.proofs.lemmas.Grind.{common_steps}
use Rattle.undo_rewriter.specs.declared.step.Step.TheVariants.{Replaced}
use Rattle.undo_rewriter.proofs.WriterLaws.{roomier_same, replaced_done, done_sound, done_kept}
use Rattle.undo_rewriter.proofs.rewriter.Rewriter.replace_func.Goals as goal

pub invariant_of-self-2 : goal.invariant_of-self-2
invariant_of-self-2 c = done_sound c.self.inside.func.rooms c.exchanged.new.func.rooms c.self.inside.journal.items c.exchanged.new.journal.items (Replaced c.self.inside.func) c.self.inside.func.flat c.exchanged.new.func.flat (replaced_done c.exchanged.new.func.rooms c.self.inside.func c.self.inside.func.flat c.exchanged.new.func.flat refl) (grind (arith, common_steps)) c.self.invariant (roomier_same c.self.inside.func.rooms c.self.inside.func.rooms refl) c.closed.ensures

pub returns-clause-kept : goal.returns-clause-kept
returns-clause-kept c = done_kept c.args.self.now _ [] (Replaced c.self.inside.func) (replaced_done [] c.self.inside.func c.args.self.now.now c.exchanged.new.func.flat (grind (arith, common_steps))) (grind (arith, common_steps))
