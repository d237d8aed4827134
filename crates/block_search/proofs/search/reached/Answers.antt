use Rattle.std.proofs.Common.{arith, length}
use Rattle.block_search.specs.Reach.{followed, rows}
use Rattle.block_search.proofs.Going.{bounded_rows, exact, going_on, going_start}
use Rattle.block_search.proofs.Marking.{read_at}
use Rattle.block_search.proofs.search.reached.Goals as goal

pub loop-place-init : goal.loop-place-init
loop-place-init c =
    going_start (followed (rows c.args.edges.now) c.args.left_out) c.args.starts.now (length c.args.edges.now) c.in_ok-marks.marks.items c.new-order.result.items c.mark_all.new.marks.items c.mark_all.new.order.items
    c.in_ok-marks.ensures c.new-order.ensures.items c.in_ok-mark_all.ensures

pub loop-place-preserved : goal.loop-place-preserved
loop-place-preserved c =
    going_on (followed (rows c.args.edges.now) c.args.left_out) c.args.starts.now (length c.args.edges.now) c.loop-place.marks.items c.loop-place.order.items c.loop-place.place c.index-node.result.now c.follow.new.marks.items c.follow.new.order.items
    c.loop-place.invariant (omega (arith, c.loop-place-test.true, c.len.ensures)) (read_at c.loop-place.order.items c.loop-place.place c.index-node.result.now (omega (arith, c.loop-place-test.true, c.len.ensures)) c.index-node.ensures) c.in_ok-follow.ensures

pub returns-clause-exact : goal.returns-clause-exact
returns-clause-exact c = λ n less.
    exact (followed (rows c.args.edges.now) c.args.left_out) c.args.starts.now (length c.args.edges.now) c.loop-place.marks.items c.loop-place.order.items c.loop-place.place
    c.loop-place.invariant (omega (arith, c.loop-place-test.false, c.len.ensures)) (bounded_rows c.args.edges.now c.args.left_out) n less
