use Rattle.std.proofs.Common.{◌≡◌, ℕ, drop}
use Rattle.conversion_model.specs.Uses.{followed}
use Rattle.stand_ins.specs.Forests.{IsForest}
use Rattle.stand_ins.specs.Tables.{forest_of, stands_for}
use Rattle.copy_uses.proofs.pairs.table_of.Given as goal

-- the pairs that are left lead on from what stands for each value so far
abbrev pub invariant-each : goal.invariant-each
invariant-each l = IsForest (forest_of l.table) × ((v : ℕ) → followed (drop l.pair-index l.pairs) (stands_for l.table) (stands_for l.table v) ≡ followed l.pairs (λ n. n) v)
