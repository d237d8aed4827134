use Rattle.std.proofs.Common.{refl, subst}
use Rattle.block_search.specs.Reach.{Marks}
use Rattle.block_search.proofs.Marking.{front_more, marks_joined}
use Rattle.block_search.proofs.search.mark_all.Goals as goal

pub loop-node-preserved : goal.loop-node-preserved
loop-node-preserved c =
    subst (λ ns. Marks c.args.marks.now.items c.args.order.now.items ns c.mark.new.marks.items c.mark.new.order.items)
    (front_more c.args.nodes.now c.loop-node.node-index _ c.loop-node-test.true refl) (marks_joined c.loop-node.invariant c.in_ok-mark.ensures)
