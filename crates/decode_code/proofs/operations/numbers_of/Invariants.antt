use Rattle.std.proofs.Common.{◌≡◌, take}
use Rattle.form_model.specs.Decoding.{numbers_of}
use Rattle.decode_code.proofs.operations.numbers_of.Given as goal

abbrev pub invariant-loop-value : goal.invariant-loop-value
invariant-loop-value l = l.numbers ≡ numbers_of (take l.value-index l.values)
