use Rattle.std.proofs.Common.{◌≡◌, drop}
use Rattle.meaning_model.specs.Meaning.{arguments}
use Rattle.run_code.specs.Views.{bits_of}
use Rattle.call_code.specs.Lists.{before}
use Rattle.outcome_code.proofs.arguments.arguments.Given as goal

abbrev pub invariant-loop-i : goal.invariant-loop-i
invariant-loop-i l = before l.all (arguments (bits_of (drop l.i l.widths)) (drop l.i l.args)) ≡ arguments (bits_of l.widths) l.args
