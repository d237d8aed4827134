use Rattle.std.proofs.Common.{arith}
use Rattle.block_search.specs.Reach.{rows}
use Rattle.block_search.proofs.Going.{no_followed, rows_count}
use Rattle.block_search.proofs.Marking.{marks_nothing}
use Rattle.block_search.proofs.search.follow.Goals as goal

pub returns-then-node-edges : goal.returns-then-node-edges
returns-then-node-edges c =
    let same = rows_count c.args.edges.now in
    marks_nothing _ _ _ (no_followed (rows c.args.edges.now) c.args.left_out c.args.node (omega (arith, same, c.if-node-edges.true)))
