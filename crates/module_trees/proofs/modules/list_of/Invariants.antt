use Rattle.std.proofs.Common.{◌≡◌, ◌++◌, length, reverse}
use Rattle.module_trees.proofs.modules.list_of.Given as goal

-- the operations that are left, and those that were taken
abbrev pub invariant-each : goal.invariant-each
invariant-each l = l.left ++ reverse l.all.items ≡ l.fn.ops

abbrev pub decreases-each : goal.decreases-each
decreases-each l = length l.left
