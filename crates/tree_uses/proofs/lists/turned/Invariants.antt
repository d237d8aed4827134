use Rattle.std.proofs.Common.{◌≡◌, ◌++◌, length, reverse}
use Rattle.tree_uses.proofs.lists.turned.Given as goal

abbrev pub invariant-each : goal.invariant-each
invariant-each g l = l.all ++ reverse l.left ≡ reverse l.fn.items

abbrev pub decreases-each : goal.decreases-each
decreases-each g l = length l.left
