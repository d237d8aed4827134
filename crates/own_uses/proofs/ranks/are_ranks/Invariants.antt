use Rattle.std.proofs.Common.{◌≡◌, drop}
use Rattle.block_search.specs.Reach.{rows}
use Rattle.own_uses.specs.Ranks.{all_fall}
use Rattle.own_uses.proofs.ranks.are_ranks.Given as goal

abbrev pub invariant-loop-node : goal.invariant-loop-node
invariant-loop-node l =
    all_fall l.ranks l.node (rows (drop l.node l.edges)) ≡ all_fall l.ranks 0 (rows l.edges)
