use Rattle.std.proofs.Common.{◌≡◌}
use Rattle.key_model.specs.Build.{attrs_among}
use Rattle.key_model.proofs.from_parts.attrs_among.Given as goal

abbrev pub invariant-loop-key : goal.invariant-loop-key
invariant-loop-key l = l.attrs.items ≡ attrs_among l.yielded
