use Rattle.std.proofs.Common.{arith}
use Rattle.block_search.proofs.Marking.{marks_new, read_false, same_order}
use Rattle.block_search.proofs.search.mark.Goals as goal

pub returns : goal.returns
returns c =
    same_order _ _ c.in_ok-push.ensures.items
    (marks_new c.args.marks.now.items c.args.order.now.items c.args.node (omega (arith, c.if-node-len.false, c.len.ensures)) (read_false c.args.marks.now.items c.args.node c.index.result.now c.index.ensures c.if-index.false))
