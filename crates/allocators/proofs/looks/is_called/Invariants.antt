use Rattle.std.proofs.Common.{◌≡◌, drop, map}
use Rattle.plain_tree.specs.Ops.{plain_func}
use Rattle.pattern_model.specs.ModuleStep.{is_called}
use Rattle.allocators.proofs.looks.is_called.Given as goal

abbrev pub invariant-each : goal.invariant-each
invariant-each l = is_called l.name (map plain_func (drop l.f-index l.funcs)) ≡ is_called l.name (map plain_func l.funcs)
