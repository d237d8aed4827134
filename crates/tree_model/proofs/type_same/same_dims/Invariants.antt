use Rattle.std.proofs.Common.{◌≡◌, length, take}
use Rattle.tree_model.proofs.type_same.same_dims.Given as goal

abbrev pub invariant-loop-d : goal.invariant-loop-d
invariant-loop-d l = take (length l.yielded) l.a ≡ take (length l.yielded) l.b
