use Rattle.std.proofs.Common.{ℕ, ◌<◌}
use Rattle.block_search.specs.Reach.{rows}
use Rattle.own_uses.specs.Ranks.{OnCycle}
use Rattle.own_uses.proofs.first.first_by_ranks.Given as goal

abbrev pub invariant-loop-node : goal.invariant-loop-node
invariant-loop-node l =
    (n : ℕ) → n < l.node → OnCycle (rows l.edges) n → ⊥
