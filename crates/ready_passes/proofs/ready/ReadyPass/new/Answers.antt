use Rattle.conversion_target.specs.Targets.{target_of}
use Rattle.pass_targets.specs.Known.{pass_target}
use Rattle.ready_passes.proofs.OrderLaws.{in_order}
use Rattle.ready_passes.proofs.ready.ReadyPass.new.Goals as goal

pub invariant_of-result : goal.invariant_of-result
invariant_of-result c = record {
  rows_are = c.in_ok-rows.ensures;
  target_is = c.in_ok-target.ensures;
  in_order = in_order c.in_ok-graph.graph (target_of c.in_ok-target.target) (pass_target c.args.pass) c.in_ok-rows.rows.pass c.args.pass c.infos.result.now c.in_ok-rows.ensures c.in_ok-target.ensures c.infos.ensures c.in_ok-graph.ensures.orders;
}
