use Rattle.std.proofs.Common.{◌≡◌, take, fold}
use Rattle.key_model.specs.Digest.{mixed_name}
use Rattle.key_model.proofs.digest.mix_names.Given as goal

abbrev pub invariant-loop-name : goal.invariant-loop-name
invariant-loop-name l = l.all ≡ fold mixed_name l.sum (take l.name-index l.names)
