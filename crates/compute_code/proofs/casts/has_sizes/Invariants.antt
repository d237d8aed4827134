use Rattle.std.proofs.Common.{◌≡◌, drop}
use Rattle.operation_model.specs.Pures.{check_sizes}
use Rattle.value_code.specs.Models.{value_of}
use Rattle.compute_code.proofs.casts.has_sizes.Given as goal

abbrev pub invariant-loop-i : goal.invariant-loop-i
invariant-loop-i l = check_sizes l.bits.bits (drop l.i l.fixed) l.i (value_of l.m) ≡ check_sizes l.bits.bits l.fixed 0 (value_of l.m)
