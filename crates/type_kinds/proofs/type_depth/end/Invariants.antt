use Rattle.std.proofs.Common.{◌≡◌, length, reverse}
use Rattle.type_kinds.specs.Depths.{ended}
use Rattle.type_kinds.proofs.type_depth.end.Given as goal

-- what is left ends as the whole does
abbrev pub invariant-each : goal.invariant-each
invariant-each l = ended (reverse l.outer.items) ≡ ended (reverse l.fn.outer.items)

abbrev pub decreases-each : goal.decreases-each
decreases-each l = length l.outer.items
