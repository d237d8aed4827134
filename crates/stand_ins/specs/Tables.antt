-- What a table stands for.
use Rattle.std.specs.Prelude.{ℕ, nat_eq}
use Rattle.std.specs.HashMap.{get}
use Rattle.stand_ins.specs.declared.table.StandIns.{StandIns}
use Rattle.stand_ins.specs.Forests.{Forest, standing}

abbrev pub forest_of : StandIns → Forest
forest_of s = record { place = λ v. get nat_eq s.places v; parents = s.parents.items }

-- the value for which each value stands
abbrev pub stands_for : StandIns → ℕ → ℕ
stands_for s = standing (forest_of s)
