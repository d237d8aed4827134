use Rattle.std.proofs.Common.{◌≡◌, drop}
use Rattle.unit_choices.specs.Lines.{type_known}
use Rattle.unit_choices.proofs.products.known_type.Given as goal

abbrev pub invariant-each : goal.invariant-each
invariant-each l = type_known (drop l.value-index l.known) l.place ≡ type_known l.known l.place
