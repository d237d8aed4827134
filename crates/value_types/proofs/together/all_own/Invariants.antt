use Rattle.std.proofs.Common.{◌≡◌, drop}
use Rattle.std.specs.List.{list_all}
use Rattle.plain_tree.specs.ValueTypes.{is_own}
use Rattle.value_types.specs.Views.{plain_types}
use Rattle.value_types.proofs.together.all_own.Given as goal

abbrev pub invariant-loop-t : goal.invariant-loop-t
invariant-loop-t l = list_all is_own (plain_types (drop l.t-index l.types)) ≡ list_all is_own (plain_types l.types)
