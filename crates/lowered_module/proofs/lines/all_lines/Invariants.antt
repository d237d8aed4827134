use Rattle.std.proofs.Common.{◌≡◌, ◌++◌, drop, map}
use Rattle.plain_tree.specs.Ops.{plain_func}
use Rattle.pass_fold.specs.Views.{failure_view}
use Rattle.lowered_module.specs.Lines.{all_lines}
use Rattle.lowered_module.proofs.StepLaws.{joined}
use Rattle.lowered_module.proofs.lines.all_lines.Given as goal

abbrev pub invariant-each : goal.invariant-each
invariant-each l = joined l.lists ++ all_lines (map plain_func l.funcs) (map failure_view (drop l.failure-index l.failures)) ≡ all_lines (map plain_func l.funcs) (map failure_view l.failures)
