use Rattle.std.proofs.Common.{◌≡◌, drop}
use Rattle.decode_code.specs.TypesIn.{types_in, with_types}
use Rattle.decode_code.proofs.value_types.ValueTypes.note_values.Given as goal

abbrev pub invariant-loop-value : goal.invariant-loop-value
invariant-loop-value l = with_types (types_in l.self) (drop l.value-index l.values) ≡ with_types (types_in l.initial.self) l.values
