use Rattle.unit_writer.proofs.NameLaws.{result_next}
use Rattle.unit_writer.proofs.pieces.results_of.Goals as goal

pub loop-known-preserved : goal.loop-known-preserved
loop-known-preserved c =
    result_next c.args.number _ _ _ c.args.results.now c.loop-known.known-index c.in_ok-value.value c.known-item.result c.loop-known.list c.push.new.self c.in_ok-copy_type.field-0 c.loop-known-test.true c.known-item.is c.in_ok-copy_type.ensures c.in_ok-push.ensures.ok
    c.in_ok-value.ensures.extends c.in_ok-value.ensures.number c.loop-known.invariant
