use Rattle.std.proofs.Common.{◌≡◌, drop, map}
use Rattle.std.specs.List.{list_all}
use Rattle.plain_tree.specs.ValueTypes.{is_value}
use Rattle.plain_tree.specs.Types.{plain_type}
use Rattle.value_types.proofs.together.value_in.Given as goal

abbrev pub invariant-loop-t : goal.invariant-loop-t
invariant-loop-t l = list_all is_value (map plain_type (drop l.t-index l.types)) ≡ list_all is_value (map plain_type l.types)
