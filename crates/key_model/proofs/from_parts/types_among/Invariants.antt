use Rattle.std.proofs.Common.{◌≡◌}
use Rattle.key_model.specs.Build.{types_among}
use Rattle.key_model.proofs.from_parts.types_among.Given as goal

abbrev pub invariant-loop-key : goal.invariant-loop-key
invariant-loop-key l = l.types.items ≡ types_among l.yielded
