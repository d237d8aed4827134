use Rattle.std.proofs.Common.{◌≡◌, take, fold}
use Rattle.key_model.specs.Digest.{mixed_dim}
use Rattle.key_model.proofs.digest.mix_dims.Given as goal

abbrev pub invariant-loop-dim : goal.invariant-loop-dim
invariant-loop-dim l = l.all ≡ fold mixed_dim l.sum (take l.dim-index l.dims)
