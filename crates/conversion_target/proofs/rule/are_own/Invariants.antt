use Rattle.std.proofs.Common.{◌≡◌, drop, map}
use Rattle.std.specs.List.{list_all}
use Rattle.plain_tree.specs.Types.{plain_type}
use Rattle.plain_tree.specs.ValueTypes.{is_own}
use Rattle.conversion_target.proofs.rule.are_own.Given as goal

abbrev pub invariant-each : goal.invariant-each
invariant-each l = list_all is_own (map plain_type (drop l.t-index l.types)) ≡ list_all is_own (map plain_type l.types)
