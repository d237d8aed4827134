use Rattle.std.proofs.Common.{◌≡◌, map, take}
use Rattle.block_search.specs.Reach.{rows}
use Rattle.first_places.specs.Tables.{table_in}
use Rattle.own_uses.specs.Flat.{row_of}
use Rattle.own_uses.specs.Views.{plain_ops}
use Rattle.own_uses.proofs.graph.rows_of.Given as goal

abbrev pub invariant-loop-op : goal.invariant-loop-op
invariant-loop-op l =
    rows l.edges.items ≡ map (row_of (table_in l.makers)) (plain_ops (take l.op-index l.ops))
