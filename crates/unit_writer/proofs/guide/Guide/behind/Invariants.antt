use Rattle.std.proofs.Common.{◌≡◌, drop, map}
use Rattle.plain_tree.specs.Ops.{ops_in, plain_op}
use Rattle.unit_writer.specs.Sizes.{behind_ops}
use Rattle.unit_writer.proofs.guide.Guide.behind.Given as goal

abbrev pub invariant-loop-op : goal.invariant-loop-op
invariant-loop-op l = behind_ops l.self.sizes.now l.number (ops_in (map plain_op (drop l._op-index l.ops))) ≡ behind_ops l.self.sizes.now l.initial.number (ops_in (map plain_op l.ops))
