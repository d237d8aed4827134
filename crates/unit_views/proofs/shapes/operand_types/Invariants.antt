use Rattle.std.proofs.Common.{◌≡◌, map, take}
use Rattle.plain_tree.specs.Types.{plain_type}
use Rattle.value_types.specs.Views.{type_at}
use Rattle.unit_views.proofs.shapes.operand_types.Given as goal

abbrev pub invariant-each : goal.invariant-each
invariant-each l = map plain_type l.all ≡ map (type_at l.types) (take l.number-index l.operands)
