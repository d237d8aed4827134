-- The lines that are left, and behind them those that were taken, last first.
use Rattle.std.proofs.Common.{◌≡◌, ◌++◌, length, reverse}
use Rattle.ordered_diags.proofs.merging.take_back.Given as goal

abbrev pub invariant-each : goal.invariant-each
invariant-each l = l.list ++ reverse l.all.items ≡ l.initial.list ++ reverse l.fn.all.items

abbrev pub decreases-each : goal.decreases-each
decreases-each l = length l.list
