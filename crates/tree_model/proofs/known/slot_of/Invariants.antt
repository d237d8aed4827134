use Rattle.std.proofs.Common.{◌≡◌, drop}
use Rattle.std.specs.List.{fold}
use Rattle.tree_model.specs.Known.{mixed}
use Rattle.tree_model.proofs.known.slot_of.Given as goal

abbrev pub invariant-loop-byte : goal.invariant-loop-byte
invariant-loop-byte l = fold mixed l.hash (drop l.byte-index l.text) ≡ fold mixed 0 l.text
