use Rattle.std.proofs.Common.{◌≡◌, take, length}
use Rattle.key_model.proofs.entry_same.same_dims.Given as goal

abbrev pub invariant-loop-d : goal.invariant-loop-d
invariant-loop-d l = take (length l.yielded) l.a ≡ take (length l.yielded) l.b
