use Rattle.std.proofs.Common.{◌≡◌, take, length}
use Rattle.key_model.proofs.entry_same.same_numbers.Given as goal

abbrev pub invariant-loop-m : goal.invariant-loop-m
invariant-loop-m l = take (length l.yielded) l.a ≡ take (length l.yielded) l.b
