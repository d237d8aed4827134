use Rattle.cut_code.specs.Pieces.{value_at}
use Rattle.new_numbers.specs.Tables.{supply_of}
use Rattle.unit_writer.proofs.NameLaws.{list_ended, list_next}
use Rattle.unit_writer.proofs.pieces.values_of.Goals as goal

pub loop-value-preserved : goal.loop-value-preserved
loop-value-preserved c =
    list_next (λ u. value_at ((supply_of u).row c.args.number)) _ _ _ c.args.values.now c.loop-value.value-index _ c.loop-value.list c.push.new.self c.in_ok-value.value c.loop-value-test.true c.in_ok-push.ensures.ok c.loop-value.invariant c.in_ok-value.ensures

pub returns : goal.returns
returns c = list_ended (λ u. value_at ((supply_of u).row c.args.number)) _ _ c.args.values.now c.loop-value.value-index c.loop-value.list c.loop-value-test.false c.loop-value.invariant
