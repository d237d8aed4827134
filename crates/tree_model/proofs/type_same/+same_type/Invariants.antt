use Rattle.std.proofs.Common.{◌≡◌, length, take}
use Rattle.tree_model.proofs.type_same.+same_type.Given as goal

abbrev pub invariant-same_types-loop-s : goal.invariant-same_types-loop-s
invariant-same_types-loop-s l = take (length l.yielded) l.a ≡ take (length l.yielded) l.b
