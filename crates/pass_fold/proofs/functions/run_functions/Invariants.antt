use Rattle.std.proofs.Common.{drop, map}
use Rattle.plain_tree.specs.Ops.{plain_func}
use Rattle.pass_fold.specs.Views.{runs_at, stood_view}
use Rattle.pass_fold.proofs.RunLaws.{Further}
use Rattle.pass_fold.proofs.functions.run_functions.Given as goal

abbrev pub invariant-each : goal.invariant-each
invariant-each g l = Further l.bits (runs_at l.anchor) l.uses l.function (map plain_func (drop l.function l.funcs)) (stood_view l.stood) (map plain_func l.funcs)
