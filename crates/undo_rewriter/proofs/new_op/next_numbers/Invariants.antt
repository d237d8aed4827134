use Rattle.std.proofs.Common.{◌≡◌}
use Rattle.undo_rewriter.specs.NewOps.{numbers_from}
use Rattle.undo_rewriter.proofs.new_op.next_numbers.Given as goal

abbrev pub invariant-loop-turn : goal.invariant-loop-turn
invariant-loop-turn l = l.list ≡ numbers_from l.start l.turn
