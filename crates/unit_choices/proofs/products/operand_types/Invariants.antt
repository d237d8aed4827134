use Rattle.std.proofs.Common.{◌≡◌, map, take}
use Rattle.plain_tree.specs.Types.{plain_type}
use Rattle.value_types.specs.Views.{type_at}
use Rattle.unit_choices.specs.Lines.{cut_type}
use Rattle.unit_choices.proofs.products.operand_types.Given as goal

abbrev pub invariant-each : goal.invariant-each
invariant-each l = map plain_type l.all ≡ map (cut_type (type_at l.types) l.known) (take l.operand-index l.operands)
