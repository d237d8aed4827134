use Rattle.std.proofs.Common.{◌≡◌, drop, map}
use Rattle.plain_tree.specs.Ops.{plain_func}
use Rattle.pattern_model.specs.ModuleStep.{is_there}
use Rattle.allocators.proofs.looks.is_there.Given as goal

abbrev pub invariant-each : goal.invariant-each
invariant-each l = is_there l.name (map plain_func (drop l.f-index l.funcs)) ≡ is_there l.name (map plain_func l.funcs)
