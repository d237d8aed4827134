use Rattle.std.proofs.Common.{◌≡◌, ◌++◌, drop}
use Rattle.machine_model.specs.Worlds as model
use Rattle.run_code.specs.Views.{bits_of}
use Rattle.round_code.proofs.outside.signed_numbers.Given as goal

abbrev pub invariant-loop-i : goal.invariant-loop-i
invariant-loop-i l = l.all ++ model.all_signed (bits_of (drop l.i l.widths)) (drop l.i l.ns) ≡ model.all_signed (bits_of l.widths) l.ns
