use Rattle.first_places.specs.Tables.{table_in}
use Rattle.own_uses.proofs.Noting.{made_on}
use Rattle.own_uses.proofs.graph.collect_values.Goals as goal

pub loop-value-preserved : goal.loop-value-preserved
loop-value-preserved c =
    made_on (table_in c.args.makers.now) c.loop-value.row.items c.put_maker.new.row.items _ c.args.values.now c.loop-value.value-index c.maker_of.result c.loop-value-test.true
    c.maker_of.ensures c.in_ok-put_maker.ensures c.loop-value.invariant
