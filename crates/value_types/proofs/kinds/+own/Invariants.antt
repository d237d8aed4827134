use Rattle.std.proofs.Common.{◌≡◌, drop, map}
use Rattle.plain_tree.specs.Types.{plain_type, types_in}
use Rattle.plain_tree.specs.ValueTypes.{all_own}
use Rattle.value_types.proofs.kinds.+own.Given as goal

abbrev pub invariant-are_own-each : goal.invariant-are_own-each
invariant-are_own-each l = all_own (types_in (map plain_type (drop l.t-index l.types))) ≡ all_own (types_in (map plain_type l.types))
