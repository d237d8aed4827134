use Rattle.std.proofs.Common.{◌≡◌, map, take}
use Rattle.std.specs.Prelude.{unwrap_or}
use Rattle.decode_code.specs.TypesIn.{types_in}
use Rattle.decode_code.proofs.value_types.ValueTypes.types_of.Given as goal

abbrev pub invariant-loop-operand : goal.invariant-loop-operand
invariant-loop-operand l = map (λ t. t.now) l.types.items ≡ map (λ n. unwrap_or (types_in l.self n) l.other) (take l.operand-index l.operands)
