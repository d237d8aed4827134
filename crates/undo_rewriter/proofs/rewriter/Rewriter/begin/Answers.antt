use Rattle.std.proofs.Common.{arith, refl}
use Rattle.std.proofs.lemmas.Grind.{common_steps}
use Rattle.undo_rewriter.specs.declared.step.Step.TheVariants.{Begin}
use Rattle.undo_rewriter.proofs.JournalLaws.{sound_after, kept_after}
use Rattle.undo_rewriter.proofs.WriterLaws.{roomier_same}
use Rattle.undo_rewriter.proofs.rewriter.Rewriter.begin.Goals as goal

pub invariant_of-self-2 : goal.invariant_of-self-2
invariant_of-self-2 c = sound_after c.self.inside.func.rooms c.self.inside.func.rooms c.self.inside.journal.items c.push.new.self.items Begin c.self.inside.func.flat c.self.inside.func.flat (grind (arith, common_steps)) c.self.invariant (roomier_same c.self.inside.func.rooms c.self.inside.func.rooms refl) refl tt c.closed.ensures

pub returns-clause-kept : goal.returns-clause-kept
returns-clause-kept c = kept_after c.args.self.now _ Begin (grind (arith, common_steps)) (grind (arith, common_steps))
