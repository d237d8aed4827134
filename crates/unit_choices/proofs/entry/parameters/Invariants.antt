use Rattle.std.proofs.Common.{◌≡◌, ◌+◌, ◌++◌, drop, map}
use Rattle.plain_tree.specs.Types.{plain_type}
use Rattle.conversion_model.specs.Choice.{parameters_from}
use Rattle.unit_choices.proofs.entry.parameters.Given as goal

abbrev pub invariant-each : goal.invariant-each
invariant-each l = l.sources ++ parameters_from (l.base + l.place) (map plain_type (drop l.place l.takes)) ≡ parameters_from l.base (map plain_type l.takes)
