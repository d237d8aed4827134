use Rattle.std.proofs.Common.{◌≡◌, ◌++◌, take}
use Rattle.tree_shape.specs.NumbersOf.{numbers_of_values}
use Rattle.tree_shape.proofs.numbers.put_values.Given as goal

abbrev pub invariant-loop-value : goal.invariant-loop-value
invariant-loop-value l = l.numbers.items ≡ l.initial.numbers.items ++ numbers_of_values (take l.value-index l.values)
