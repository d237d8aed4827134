use Rattle.std.proofs.Common.{◌≡◌, drop}
use Rattle.std.specs.List.{list_any}
use Rattle.pattern_model.specs.ModuleStep.{calls}
use Rattle.tree_walk.specs.Walks.{plain_ops}
use Rattle.allocators.proofs.looks.has_call.Given as goal

abbrev pub invariant-each : goal.invariant-each
invariant-each l = list_any (calls l.name) (plain_ops (drop l.op-index l.ops)) ≡ list_any (calls l.name) (plain_ops l.ops)
