use Rattle.first_places.specs.Tables.{table_in}
use Rattle.use_paths.proofs.Noting.{labels_on}
use Rattle.use_paths.proofs.region.places_of.Goals as goal

pub loop-place-preserved : goal.loop-place-preserved
loop-place-preserved c =
    labels_on (table_in c.loop-place.places) (table_in c.note_label.new.places) _ c.loop-place.place c.args.blocks.now c.index-blocks-place.result c.loop-place-test.true c.index-blocks-place.is
    c.in_ok-note_label.ensures c.loop-place.invariant
