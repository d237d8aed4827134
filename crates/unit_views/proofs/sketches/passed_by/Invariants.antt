use Rattle.std.proofs.Common.{◌≡◌, map, drop}
use Rattle.plain_tree.specs.Ops.{ops_in, plain_op}
use Rattle.pattern_model.specs.ScfRows.{passed_by}
use Rattle.unit_views.proofs.sketches.passed_by.Given as goal

abbrev pub invariant-each : goal.invariant-each
invariant-each l = passed_by (ops_in (map plain_op (drop l.op-index l.ops))) ≡ passed_by (ops_in (map plain_op l.ops))
