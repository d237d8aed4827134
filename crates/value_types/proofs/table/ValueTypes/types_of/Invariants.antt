use Rattle.std.proofs.Common.{◌≡◌, map, take}
use Rattle.value_types.specs.Views.{plain_types, type_at}
use Rattle.value_types.proofs.table.ValueTypes.types_of.Given as goal

abbrev pub invariant-loop-number : goal.invariant-loop-number
invariant-loop-number l = plain_types l.types.items ≡ map (type_at l.self) (take l.number-index l.numbers)
