use Rattle.cut_code.specs.Pieces.{label_at}
use Rattle.new_numbers.specs.Tables.{supply_of}
use Rattle.unit_writer.proofs.NameLaws.{list_ended, list_next}
use Rattle.unit_writer.proofs.pieces.labels_of.Goals as goal

pub loop-label-preserved : goal.loop-label-preserved
loop-label-preserved c =
    list_next (λ u. label_at ((supply_of u).row c.args.number)) _ _ _ c.args.labels.now c.loop-label.label-index _ c.loop-label.list c.push.new.self c.in_ok-label.label c.loop-label-test.true c.in_ok-push.ensures.ok c.loop-label.invariant c.in_ok-label.ensures

pub returns : goal.returns
returns c = list_ended (λ u. label_at ((supply_of u).row c.args.number)) _ _ c.args.labels.now c.loop-label.label-index c.loop-label.list c.loop-label-test.false c.loop-label.invariant
