use Rattle.first_places.specs.Tables.{table_in}
use Rattle.use_paths.proofs.Noting.{blocks_on}
use Rattle.use_paths.proofs.homes.homes_of.Goals as goal

pub loop-place-preserved : goal.loop-place-preserved
loop-place-preserved c =
    blocks_on (table_in c.loop-place.homes) (table_in c.note_block.new.homes) _ c.loop-place.place c.args.blocks.now c.index-blocks-place.result c.loop-place-test.true c.index-blocks-place.is
    c.in_ok-note_block.ensures c.loop-place.invariant
