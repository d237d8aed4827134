use Rattle.std.proofs.Common.{◌≡◌, map, take}
use Rattle.plain_tree.specs.Types.{plain_type}
use Rattle.value_types.specs.Views.{plain_types}
use Rattle.value_types.proofs.together.borrowed.Given as goal

abbrev pub invariant-loop-value : goal.invariant-loop-value
invariant-loop-value l = plain_types l.types.items ≡ map (λ v. plain_type v.1) (take l.value-index l.values)
