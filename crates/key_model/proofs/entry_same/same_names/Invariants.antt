use Rattle.std.proofs.Common.{◌≡◌, take, length}
use Rattle.key_model.proofs.entry_same.same_names.Given as goal

abbrev pub invariant-loop-v : goal.invariant-loop-v
invariant-loop-v l = take (length l.yielded) l.a ≡ take (length l.yielded) l.b
