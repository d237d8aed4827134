use Rattle.std.proofs.Common.{drop}
use Rattle.pass_fold.proofs.RunLaws.{SoFar}
use Rattle.pass_fold.proofs.stages.run_pipeline.Given as goal

abbrev pub invariant-each : goal.invariant-each
invariant-each g l = SoFar l.bits (drop l.stage-index l.stages) l.module_behind l.stages l.fn.tree
