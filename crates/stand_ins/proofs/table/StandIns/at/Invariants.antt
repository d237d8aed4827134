use Rattle.std.proofs.Common.{◌≡◌}
use Rattle.stand_ins.specs.Forests.{places_left}
use Rattle.stand_ins.specs.Tables.{forest_of, stands_for}
use Rattle.stand_ins.proofs.table.StandIns.at.Given as goal

abbrev pub invariant-each : goal.invariant-each
invariant-each l = stands_for l.self l.reached ≡ stands_for l.self l.initial.value

abbrev pub decreases-each : goal.decreases-each
decreases-each l = places_left (forest_of l.self) l.reached
