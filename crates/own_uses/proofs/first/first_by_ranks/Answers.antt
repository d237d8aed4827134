use Rattle.std.proofs.Common.{arith}
use Rattle.own_uses.proofs.RankLaws.{first_here, none_here, none_there}
use Rattle.own_uses.proofs.first.first_by_ranks.Goals as goal

pub returns-then-on : goal.returns-then-on
returns-then-on c = first_here c.args.edges.now c.loop-node.node c.in_ok-on.on c.loop-node-test.true c.in_ok-on.ensures c.if-on.true c.loop-node.invariant

pub loop-node-preserved : goal.loop-node-preserved
loop-node-preserved c = none_here c.args.edges.now c.loop-node.node c.in_ok-on.on c.in_ok-on.ensures c.if-on.false c.loop-node.invariant

pub returns : goal.returns
returns c = none_there c.args.edges.now c.loop-node.node (omega arith) c.loop-node.invariant
