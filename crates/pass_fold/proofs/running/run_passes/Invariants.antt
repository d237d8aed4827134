use Rattle.std.proofs.Common.{drop}
use Rattle.plain_tree.specs.Ops.{plain_op}
use Rattle.pass_fold.specs.Views.{made_or}
use Rattle.pass_fold.proofs.RunLaws.{Onward}
use Rattle.pass_fold.proofs.running.run_passes.Given as goal

abbrev pub invariant-each : goal.invariant-each
invariant-each g l = Onward l.bits l.function l.position (drop l.position l.uses) (made_or (plain_op l.f) l.made) l.uses (plain_op l.f)
