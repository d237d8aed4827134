use Rattle.std.proofs.Common.{◌≡◌, length}
use Rattle.own_uses.proofs.ranks.filled.Given as goal

abbrev pub invariant-loop-turn : goal.invariant-loop-turn
invariant-loop-turn l =
    length l.list.items ≡ l._turn
