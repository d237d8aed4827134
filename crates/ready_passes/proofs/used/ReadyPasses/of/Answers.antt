use Rattle.ready_passes.specs.Used.{names_in}
use Rattle.ready_passes.proofs.PassLaws.{all_used, next_used}
use Rattle.ready_passes.proofs.used.ReadyPasses.of.Goals as goal

pub each-preserved : goal.each-preserved
each-preserved c = next_used c.as_slice-stages.result.now c.as_slice-all.result.now (names_in c.each.passes.items) (names_in c.put_used.new.passes.items) c.each.pass-index _ c.each-test.true c.in_ok-put_used.ensures c.each.invariant

pub returns : goal.returns
returns c = all_used c.as_slice-stages.result.now c.args.pipeline.now.stages c.as_slice-all.result.now (names_in c.each.passes.items) c.each.pass-index c.as_slice-stages.ensures c.as_slice-all.ensures c.each-test.false c.each.invariant
