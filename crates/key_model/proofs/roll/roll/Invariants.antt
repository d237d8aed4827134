use Rattle.std.proofs.Common.{◌≡◌, take}
use Rattle.key_model.specs.Rolled.{rolled}
use Rattle.key_model.proofs.roll.roll.Given as goal

abbrev pub invariant-loop-byte : goal.invariant-loop-byte
invariant-loop-byte l = l.out ≡ rolled l.initial.out (take l.byte-index l.text)
