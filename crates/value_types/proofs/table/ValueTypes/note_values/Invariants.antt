use Rattle.std.proofs.Common.{◌≡◌, drop}
use Rattle.plain_tree.specs.Ops.{plain_values}
use Rattle.value_types.specs.Views.{types_in, with_types}
use Rattle.value_types.proofs.table.ValueTypes.note_values.Given as goal

abbrev pub invariant-loop-value : goal.invariant-loop-value
invariant-loop-value l = with_types (types_in l.self) (plain_values (drop l.value-index l.values)) ≡ with_types (types_in l.initial.self) (plain_values l.values)
