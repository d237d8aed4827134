use Rattle.std.proofs.Common.{◌≡◌, get_or, map, take}
use Rattle.choice_code.proofs.moves.successors_at.Given as goal

abbrev pub invariant-each : goal.invariant-each
invariant-each l = l.all ≡ map (λ k. get_or l.successors k 0) (take l.place-index l.places)
