use Rattle.std.proofs.Common.{◌-◌, length}
use Rattle.block_search.specs.Reach.{followed, rows}
use Rattle.block_search.proofs.Going.{Going}
use Rattle.block_search.proofs.search.reached.Given as goal

abbrev pub invariant-loop-place : goal.invariant-loop-place
invariant-loop-place l = Going (followed (rows l.edges) l.left_out) l.starts (length l.edges) l.marks.items l.order.items l.place

abbrev pub decreases-loop-place : goal.decreases-loop-place
decreases-loop-place l = length l.edges - l.place
