use Rattle.std.proofs.Common.{◌≡◌, take, fold}
use Rattle.key_model.specs.Digest.{mixed_handle}
use Rattle.key_model.proofs.digest.mix_handles.Given as goal

abbrev pub invariant-loop-handle : goal.invariant-loop-handle
invariant-loop-handle l = l.all ≡ fold mixed_handle l.sum (take l.handle-index l.handles)
