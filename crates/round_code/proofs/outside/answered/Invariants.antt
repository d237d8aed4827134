use Rattle.std.proofs.Common.{◌≡◌, ◌++◌, drop}
use Rattle.machine_model.specs.Worlds as model
use Rattle.run_code.specs.Views.{bits_of}
use Rattle.round_code.proofs.outside.answered.Given as goal

abbrev pub invariant-loop-i : goal.invariant-loop-i
invariant-loop-i l = l.all ++ model.answered (bits_of (drop l.i l.widths)) (drop l.i l.answers) ≡ model.answered (bits_of l.widths) l.answers
