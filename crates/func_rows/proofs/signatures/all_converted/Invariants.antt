use Rattle.std.proofs.Common.{◌≡◌, Some, drop, map}
use Rattle.plain_tree.specs.Types.{plain_type}
use Rattle.conversion_model.specs.Types.{all_converted, both_lists}
use Rattle.func_rows.proofs.signatures.all_converted.Given as goal

abbrev pub invariant-each : goal.invariant-each
invariant-each l = both_lists (Some (map plain_type l.all)) (all_converted l.bits (map plain_type (drop l.t-index l.types))) ≡ all_converted l.bits (map plain_type l.types)
