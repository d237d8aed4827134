use Rattle.first_places.specs.Tables.{table_in}
use Rattle.own_uses.proofs.Noting.{makers_on}
use Rattle.own_uses.proofs.graph.makers_in.Goals as goal

pub loop-number-preserved : goal.loop-number-preserved
loop-number-preserved c =
    makers_on (table_in c.loop-number.makers) (table_in c.note_results.new.makers) _ c.loop-number.number c.args.ops.now c.index-ops-number.result c.as_slice.result.now c.loop-number-test.true
    c.index-ops-number.is c.as_slice.ensures c.in_ok-note_results.ensures c.loop-number.invariant
