use Rattle.std.proofs.Common.{◌≡◌, drop}
use Rattle.form_model.specs.Properties.{naturals}
use Rattle.form_code.proofs.Gathering.{behind}
use Rattle.form_code.proofs.properties.naturals.Given as goal

abbrev pub invariant-loop-z : goal.invariant-loop-z
invariant-loop-z l = behind l.list (naturals (drop l.z-index l.numbers)) ≡ naturals l.numbers
