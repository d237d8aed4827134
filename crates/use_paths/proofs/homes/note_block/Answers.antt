use Rattle.first_places.specs.Tables.{table_in}
use Rattle.use_paths.proofs.Noting.{block_on}
use Rattle.use_paths.proofs.homes.note_block.Goals as goal

pub returns : goal.returns
returns c =
    block_on (table_in c.args.homes.now) (table_in c.note_values.new.homes) (table_in c.note_ops.new.homes) c.args.block.now c.args.place c.len-left.result c.as_slice.result.now c.as_slice-2.result.now
    c.len-left.ensures c.as_slice.ensures c.as_slice-2.ensures c.in_ok-note_values.ensures c.in_ok-note_ops.ensures
