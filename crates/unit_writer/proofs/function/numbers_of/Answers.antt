use Rattle.unit_writer.proofs.NameLaws.{number_next}
use Rattle.unit_writer.proofs.function.numbers_of.Goals as goal

pub loop-value-preserved : goal.loop-value-preserved
loop-value-preserved c = number_next c.args.values.now c.loop-value.value-index c.value-item.result c.loop-value.list c.push.new.self c.loop-value-test.true c.value-item.is c.in_ok-push.ensures.ok c.loop-value.invariant
