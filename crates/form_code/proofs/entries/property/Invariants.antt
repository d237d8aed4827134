use Rattle.std.proofs.Common.{◌≡◌, drop}
use Rattle.form_model.specs.Properties.{property}
use Rattle.form_code.proofs.entries.property.Given as goal

abbrev pub invariant-loop-entry : goal.invariant-loop-entry
invariant-loop-entry l = property l.name (drop l.entry-index l.entries) ≡ property l.name l.entries
