use Rattle.std.proofs.Common.{◌≡◌, drop}
use Rattle.run_code.specs.Views.{bits_of}
use Rattle.form_model.specs.Types.{widths_of}
use Rattle.form_code.proofs.Gathering.{behind}
use Rattle.form_code.proofs.types.widths_of.Given as goal

abbrev pub invariant-loop-t : goal.invariant-loop-t
invariant-loop-t l = behind (bits_of l.widths) (widths_of l.bits.bits (drop l.t-index l.types)) ≡ widths_of l.bits.bits l.types
