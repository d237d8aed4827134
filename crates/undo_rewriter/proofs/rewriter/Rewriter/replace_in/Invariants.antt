use Rattle.std.proofs.Common.{◌≡◌}
use Rattle.edit_effects.proofs.UseLaws.{operands_so_far}
use Rattle.undo_rewriter.specs.Journal.{KeepsMarks}
use Rattle.undo_rewriter.proofs.rewriter.Rewriter.replace_in.Given as goal

abbrev pub invariant-loop-at : goal.invariant-loop-at
invariant-loop-at l = record {
  nodes : l.self.now ≡ operands_so_far l.from l.to l.initial.self.now l.op l.at;
  kept : KeepsMarks l.initial.self l.self;
}
