use Rattle.std.proofs.Common.{◌≡◌, map, take}
use Rattle.stand_ins.specs.Forests.{IsForest}
use Rattle.stand_ins.specs.Tables.{forest_of, stands_for}
use Rattle.copy_uses.proofs.tree.numbers.Given as goal

abbrev pub invariant-each : goal.invariant-each
invariant-each l = IsForest (forest_of l.to) × (stands_for l.to ≡ stands_for l.fn.to) × (l.list ≡ map (stands_for l.fn.to) (take l.value-index l.fn.values))
