use Rattle.std.proofs.Common.{◌-◌, length, refl}
use Rattle.first_places.specs.Tables.{table_in}
use Rattle.use_paths.proofs.Noting.{ops_on}
use Rattle.use_paths.proofs.homes.note_ops.Goals as goal

pub loop-index-preserved : goal.loop-index-preserved
loop-index-preserved c =
    ops_on (table_in c.loop-index.homes) (table_in c.note_values.new.homes) _ c.args.block c.loop-index.index (length c.args.ops.now - c.loop-index.index - 1) c.args.ops.now c.index-ops-index.result
    c.as_slice.result.now c.loop-index-test.true c.index-ops-index.is refl c.as_slice.ensures c.in_ok-note_values.ensures c.loop-index.invariant
