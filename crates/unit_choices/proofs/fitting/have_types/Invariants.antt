use Rattle.std.proofs.Common.{◌≡◌, map, take}
use Rattle.plain_tree.specs.Types.{plain_type}
use Rattle.value_types.specs.Views.{type_at}
use Rattle.unit_choices.proofs.fitting.have_types.Given as goal

abbrev pub invariant-each : goal.invariant-each
invariant-each l = map (type_at l.types) (take l.index l.operands) ≡ map plain_type (take l.index l.expected)
