use Rattle.std.proofs.Common.{◌≡◌, length}
use Rattle.own_uses.proofs.ranks.flood.Given as goal

abbrev pub invariant-loop-turn : goal.invariant-loop-turn
invariant-loop-turn l =
    length l.ranks.items ≡ length l.initial.ranks.items
