use Rattle.std.proofs.Common.{◌≡◌, ◌<◌, ◌≤◌, ◌+◌, arith, ◌∙◌, length, drop}
use Rattle.std.proofs.lemmas.Grind.{common_steps}
use Rattle.std.proofs.lemmas.List.{length-drop}
use Rattle.undo_rewriter.specs.Journal.{edits}
use Rattle.undo_rewriter.proofs.WriterLaws.{shorter_journal, edits_few}
use Rattle.undo_rewriter.proofs.rewriter.Rewriter.rollback.Goals as goal

pub loop-self-preserved-then-undo_last : goal.loop-self-preserved-then-undo_last
loop-self-preserved-then-undo_last c =
    let us = c.loop-self.self.journal in let vs = c.undo_last.new.self.journal in let ws = c.args.self.now.journal in let i = c.loop-self.invariant in
    let lt : c.args.mark < length us = grind (arith, common_steps) in
    let s = shorter_journal us vs ws (omega arith) c.undo_last.ensures.journal i.journal i.shorter in
    let one : length vs + 1 ≡ length us = s.0 in
    let d : edits (drop c.args.mark us) ≡ edits (drop c.args.mark vs) + 1 = c.if-undo_last.ensures.edits c.args.mark lt in
    let few : edits (drop c.args.mark ws) ≤ length ws = omega (arith, edits_few (drop c.args.mark ws), length-drop c.args.mark ws) in
    record {
      behind = omega arith;
      shorter = omega arith;
      journal = s.1;
      marks = λ k l. c.undo_last.ensures.marks k (omega arith) ∙ i.marks k (omega arith);
      whole = i.whole;
      ticks = omega (arith, d, few, i.ticks, i.whole, c.saturating_add-ticks.ensures);
    }
