use Rattle.std.proofs.Common.{◌≡◌, take, length}
use Rattle.key_model.proofs.entry_same.same_handles.Given as goal

abbrev pub invariant-loop-g : goal.invariant-loop-g
invariant-loop-g l = take (length l.yielded) l.a ≡ take (length l.yielded) l.b
