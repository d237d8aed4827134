use Rattle.std.proofs.Common.{◌≡◌, drop, map}
use Rattle.plain_tree.specs.Ops.{ops_in, plain_op}
use Rattle.use_paths.specs.Blocks.{left_at_end}
use Rattle.use_paths.proofs.region.left_at_end.Given as goal

abbrev pub invariant-loop-index : goal.invariant-loop-index
invariant-loop-index l =
    left_at_end (ops_in (map plain_op (drop l.index l.ops))) ≡ left_at_end (ops_in (map plain_op l.ops))
