use Rattle.std.proofs.Common.{◌≡◌, ℕ, ◌+◌, ◌≤◌, length, take, drop}
use Rattle.undo_rewriter.specs.Journal.{at_mark, edits}
use Rattle.undo_rewriter.proofs.rewriter.Rewriter.rollback.Given as goal

abbrev pub invariant-loop-self : goal.invariant-loop-self
invariant-loop-self l = record {
  behind : l.mark ≤ length l.self.journal;
  shorter : length l.self.journal ≤ length l.initial.self.journal;
  journal : l.self.journal ≡ take (length l.self.journal) l.initial.self.journal;
  marks : (k : ℕ) → k ≤ length l.self.journal → at_mark l.self.journal l.self.now k ≡ at_mark l.initial.self.journal l.initial.self.now k;
  whole : length l.initial.self.journal ≡ l.whole;
  ticks : l.ticks + edits (drop l.mark l.self.journal) ≡ edits (drop l.mark l.initial.self.journal);
}

abbrev pub decreases-loop-self : goal.decreases-loop-self
decreases-loop-self l = length l.self.journal
