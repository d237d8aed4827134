use Rattle.std.proofs.Common.{◌≡◌, map, take}
use Rattle.plain_tree.specs.Types.{plain_type, type_tree}
use Rattle.pattern_model.specs.ArithRows.{all_types}
use Rattle.row_code.proofs.types.all_types.Given as goal

abbrev pub invariant-each : goal.invariant-each
invariant-each l = l.all ≡ map type_tree (all_types l.bits (map plain_type (take l.t-index l.types)))
