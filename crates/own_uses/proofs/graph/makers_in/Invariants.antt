use Rattle.std.proofs.Common.{◌≡◌, drop}
use Rattle.first_places.specs.Tables.{nothing_yet, table_in, with_firsts}
use Rattle.own_uses.specs.Flat.{makers_from}
use Rattle.own_uses.specs.Views.{plain_ops}
use Rattle.own_uses.proofs.graph.makers_in.Given as goal

abbrev pub invariant-loop-number : goal.invariant-loop-number
invariant-loop-number l =
    with_firsts (table_in l.makers) (makers_from l.number (plain_ops (drop l.number l.ops))) ≡ with_firsts nothing_yet (makers_from 0 (plain_ops l.ops))
