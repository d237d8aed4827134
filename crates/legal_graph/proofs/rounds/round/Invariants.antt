use Rattle.std.proofs.Common.{◌≡◌, ◌≤◌, ℕ, List, drop, length}
use Rattle.std.specs.Str.{bytes_eq}
use Rattle.std.specs.HashMap.{get}
use Rattle.std.specs.HashSet.{contains}
use Rattle.legal_graph.specs.Depths.{least_of, level}
use Rattle.legal_graph.proofs.rounds.round.Given as goal

abbrev pub invariant-each : goal.invariant-each
invariant-each l =
    l.index ≤ length l.infos
    × ((q : List ℕ) → get bytes_eq l.next q ≡ least_of (level (contains bytes_eq l.legal) (get bytes_eq l.found)) (drop l.index l.infos) q)

abbrev pub decreases-each : goal.decreases-each
decreases-each l = l.index
