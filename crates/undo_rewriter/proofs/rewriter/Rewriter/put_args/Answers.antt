use Rattle.std.proofs.Common.{arith, []}
use Rattle.std.proofs.lemmas.Grind.{common_steps}
use Rattle.undo_rewriter.specs.declared.step.Step.TheVariants.{ArgsSet}
use Rattle.undo_rewriter.proofs.WriterLaws.{roomier_same, args_done, done_sound, done_kept}
use Rattle.undo_rewriter.proofs.rewriter.Rewriter.put_args.Goals as goal

pub invariant_of-self-2 : goal.invariant_of-self-2
invariant_of-self-2 c = done_sound c.self.inside.func.rooms c.exchange_args.new.self.rooms c.self.inside.journal.items c.push.new.self.items (ArgsSet c.args.block c.in_ok-held.held) c.self.inside.func.flat c.exchange_args.new.self.flat (args_done c.exchange_args.new.self.rooms c.self.inside.func.flat c.exchange_args.new.self.flat c.args.block c.args.args.items c.in_ok-held.held (grind (arith, common_steps)) (grind (arith, common_steps)) (grind (arith, common_steps))) (grind (arith, common_steps)) c.self.invariant (roomier_same _ _ (grind (arith, common_steps))) c.exchange_args.ensures.closed

pub returns-clause-kept : goal.returns-clause-kept
returns-clause-kept c = done_kept c.args.self.now _ [] (ArgsSet c.args.block c.in_ok-held.held) (args_done [] c.args.self.now.now c.exchange_args.new.self.flat c.args.block c.args.args.items c.in_ok-held.held (grind (arith, common_steps)) (grind (arith, common_steps)) (grind (arith, common_steps))) (grind (arith, common_steps))
