use Rattle.std.proofs.Common.{◌≡◌}
use Rattle.stand_ins.specs.Forests.{IsForest, places_left}
use Rattle.stand_ins.specs.Tables.{forest_of, stands_for}
use Rattle.stand_ins.proofs.table.StandIns.number.Given as goal

-- each value stands for what it stood for, and so does the one that is reached
abbrev pub invariant-each : goal.invariant-each
invariant-each l = IsForest (forest_of l.self) × (stands_for l.self ≡ stands_for l.initial.self) × (stands_for l.initial.self l.reached ≡ stands_for l.initial.self l.initial.value)

abbrev pub decreases-each : goal.decreases-each
decreases-each l = places_left (forest_of l.self) l.reached
