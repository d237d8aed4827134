use Rattle.std.specs.Str.{bytes_eq}
use Rattle.std.specs.HashMap.{get}
use Rattle.std.specs.HashSet.{contains}
use Rattle.legal_graph.proofs.RoundLaws.{FoundIn}
use Rattle.legal_graph.proofs.rounds.depths.Given as goal

abbrev pub invariant-rounds : goal.invariant-rounds
invariant-rounds l = FoundIn (contains bytes_eq l.legal) l.infos l.turn (get bytes_eq l.found)
