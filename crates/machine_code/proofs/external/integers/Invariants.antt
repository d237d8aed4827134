use Rattle.std.proofs.Common.{◌≡◌, ◌++◌, map, drop}
use Rattle.operation_model.specs.Values as values
use Rattle.value_code.specs.Models.{values_of}
use Rattle.machine_code.proofs.external.integers.Given as goal

abbrev pub invariant-loop-n : goal.invariant-loop-n
invariant-loop-n l = values_of l.all ++ map values.Integer (drop l.n-index l.ns) ≡ map values.Integer l.ns
