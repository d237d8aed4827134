-- The lists that are left, and behind them the lines that were taken, last first.
use Rattle.std.proofs.Common.{◌≡◌, ◌++◌, length, reverse}
use Rattle.std.specs.Prelude.{flat_map}
use Rattle.ordered_diags.proofs.merging.joined.Given as goal

abbrev pub invariant-each : goal.invariant-each
invariant-each l = flat_map (λ list. list) l.lists ++ reverse l.all.items ≡ flat_map (λ list. list) l.initial.lists

abbrev pub decreases-each : goal.decreases-each
decreases-each l = length l.lists
