use Rattle.std.proofs.Common.{◌≡◌, map}
use Rattle.std.specs.Prelude.{replicate}
use Rattle.plain_tree.specs.Types.{Int, plain_type}
use Rattle.rule_tests.proofs.functions.wide_types.Given as goal

abbrev pub invariant-loop-index : goal.invariant-loop-index
invariant-loop-index l = map plain_type l.types.items ≡ replicate l._index (Int 64)
