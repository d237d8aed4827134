use Rattle.std.proofs.Common.{◌≡◌, ◌++◌, drop}
use Rattle.first_places.specs.Tables.{table_in}
use Rattle.own_uses.specs.Flat.{makers_of}
use Rattle.own_uses.proofs.graph.collect_values.Given as goal

abbrev pub invariant-loop-value : goal.invariant-loop-value
invariant-loop-value l =
    l.row.items ++ makers_of (table_in l.makers) (drop l.value-index l.values) ≡ l.initial.row.items ++ makers_of (table_in l.makers) l.values
