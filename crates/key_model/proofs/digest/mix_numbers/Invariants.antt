use Rattle.std.proofs.Common.{◌≡◌, take, fold}
use Rattle.key_model.specs.Digest.{mixed_signed}
use Rattle.key_model.proofs.digest.mix_numbers.Given as goal

abbrev pub invariant-loop-number : goal.invariant-loop-number
invariant-loop-number l = l.all ≡ fold mixed_signed l.sum (take l.number-index l.numbers)
