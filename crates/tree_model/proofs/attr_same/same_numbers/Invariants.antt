use Rattle.std.proofs.Common.{◌≡◌, length, take}
use Rattle.tree_model.proofs.attr_same.same_numbers.Given as goal

abbrev pub invariant-loop-m : goal.invariant-loop-m
invariant-loop-m l = take (length l.yielded) l.a ≡ take (length l.yielded) l.b
