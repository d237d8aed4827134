use Rattle.pass_own.proofs.OwnLaws.{passes_take_own}
use Rattle.driver_bench.proofs.OrderLaws.{ordered}
use Rattle.driver_bench.proofs.converted.Goals as goal

pub convert-requires-clause-order : goal.convert-requires-clause-order
convert-requires-clause-order c = ordered c.in_ok-ready.ready c.tables-pass.result.set.now c.tables-pass.result.target.now c.tables-pass.result.graph.now c.tables-pass.ensures.set c.tables-pass.ensures.target c.tables-pass.ensures.graph

pub convert-requires-clause-own : goal.convert-requires-clause-own
convert-requires-clause-own c = passes_take_own c.tables-pass.result.set.now.pass c.tables-pass.result.bits
