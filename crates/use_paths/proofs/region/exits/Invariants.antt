use Rattle.std.proofs.Common.{◌≡◌, drop, map}
use Rattle.plain_tree.specs.Ops.{ops_in, plain_op}
use Rattle.use_paths.specs.Blocks.{exits_by}
use Rattle.use_paths.proofs.region.exits.Given as goal

abbrev pub invariant-loop-op : goal.invariant-loop-op
invariant-loop-op l =
    exits_by (ops_in (map plain_op (drop l.op-index l.ops))) ≡ exits_by (ops_in (map plain_op l.ops))
