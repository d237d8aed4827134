use Rattle.first_places.specs.Tables.{table_in}
use Rattle.use_paths.proofs.Noting.{values_on}
use Rattle.use_paths.proofs.homes.note_values.Goals as goal

pub loop-value-preserved : goal.loop-value-preserved
loop-value-preserved c =
    values_on (table_in c.loop-value.homes) (table_in c.note.new.homes) _ c.args.home c.args.values.now c.loop-value.value-index c.value-item.result c.loop-value-test.true c.value-item.is
    c.in_ok-note.ensures c.loop-value.invariant
