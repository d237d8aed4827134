use Rattle.std.proofs.Common.{◌≡◌, map, take}
use Rattle.plain_tree.specs.Types.{plain_type}
use Rattle.unit_choices.proofs.fitting.are_of.Given as goal

abbrev pub invariant-each : goal.invariant-each
invariant-each l = map (λ v. plain_type v.1) (take l.index l.results) ≡ map plain_type (take l.index l.expected)
