use Rattle.std.proofs.Common.{take}
use Rattle.block_search.specs.Reach.{Marks}
use Rattle.block_search.proofs.search.mark_all.Given as goal

abbrev pub invariant-loop-node : goal.invariant-loop-node
invariant-loop-node l = Marks l.initial.marks.items l.initial.order.items (take l.node-index l.nodes) l.marks.items l.order.items
