use Rattle.std.proofs.Common.{◌≡◌, drop}
use Rattle.operation_model.specs.Values as model
use Rattle.value_code.specs.Models.{value_of}
use Rattle.value_code.proofs.parts.part_at.Given as goal

abbrev pub invariant-loop-i : goal.invariant-loop-i
invariant-loop-i l = model.part_at (drop l.i-index l.path) (value_of l.at) ≡ model.part_at l.path (value_of l.v)
