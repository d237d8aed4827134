use Rattle.std.proofs.Common.{◌≡◌, length, take}
use Rattle.tree_shape.specs.WithoutNumbers.{types_alone}
use Rattle.tree_shape.proofs.alike.alike_values.Given as goal

abbrev pub invariant-loop-v : goal.invariant-loop-v
invariant-loop-v l = types_alone (take (length l.yielded) l.a) ≡ types_alone (take (length l.yielded) l.b)
