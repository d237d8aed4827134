use Rattle.std.proofs.Common.{◌≡◌, map, take}
use Rattle.plain_tree.specs.Ops.{plain_func}
use Rattle.rule_model.specs.Facts.{declared}
use Rattle.rule_facts.specs.Views.{all_declared}
use Rattle.ir_verifier.proofs.module.declarations.Given as goal

abbrev pub invariant-loop-func : goal.invariant-loop-func
invariant-loop-func l = all_declared l.all.items ≡ map declared (map plain_func (take l.func-index l.funcs))
