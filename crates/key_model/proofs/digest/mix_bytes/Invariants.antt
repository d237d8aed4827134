use Rattle.std.proofs.Common.{◌≡◌, take}
use Rattle.key_model.specs.Digest.{mixed_all}
use Rattle.key_model.proofs.digest.mix_bytes.Given as goal

abbrev pub invariant-loop-byte : goal.invariant-loop-byte
invariant-loop-byte l = l.all ≡ mixed_all l.sum (take l.byte-index l.bytes)
