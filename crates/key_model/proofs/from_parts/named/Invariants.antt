use Rattle.std.proofs.Common.{◌≡◌, ◌++◌}
use Rattle.std.specs.List.{zip}
use Rattle.key_model.proofs.from_parts.named.Given as goal

abbrev pub invariant-loop-a : goal.invariant-loop-a
invariant-loop-a l = l.entries ++ zip l.rest l.a-iterator.rest.items ≡ zip l.fn.names l.fn.attrs.items
