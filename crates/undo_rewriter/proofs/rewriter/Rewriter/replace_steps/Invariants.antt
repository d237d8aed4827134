use Rattle.std.proofs.Common.{◌≡◌}
use Rattle.edit_effects.proofs.UseLaws.{uses_so_far}
use Rattle.undo_rewriter.specs.Journal.{KeepsMarks}
use Rattle.undo_rewriter.proofs.rewriter.Rewriter.replace_steps.Given as goal

abbrev pub invariant-loop-op : goal.invariant-loop-op
invariant-loop-op l = record {
  nodes : l.self.now ≡ uses_so_far l.from l.to l.initial.self.now l.op;
  kept : KeepsMarks l.initial.self l.self;
}
