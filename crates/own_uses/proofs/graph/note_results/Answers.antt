use Rattle.first_places.specs.Tables.{table_in}
use Rattle.own_uses.proofs.Noting.{results_on}
use Rattle.own_uses.proofs.graph.note_results.Goals as goal

pub loop-value-preserved : goal.loop-value-preserved
loop-value-preserved c =
    results_on (table_in c.loop-value.makers) (table_in c.note.new.makers) _ c.args.number c.args.results.now c.loop-value.value-index c.value-item.result c.loop-value-test.true c.value-item.is
    c.in_ok-note.ensures c.loop-value.invariant
