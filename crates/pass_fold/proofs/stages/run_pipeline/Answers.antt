use Rattle.std.proofs.Common.{subst}
use Rattle.pipeline_text.specs.declared.pass.Stage.{Stage}
use Rattle.pass_fold.specs.Whole.{StageIs}
use Rattle.pass_fold.proofs.RunLaws.{last_step, later_step, no_more, none_failed, some_failed}
use Rattle.pass_fold.proofs.stages.run_pipeline.Goals as goal

pub returns-then-not-is_empty : goal.returns-then-not-is_empty
returns-then-not-is_empty g c = last_step c.args.pipeline.now c.width_of-bits.result c.as_slice-stages.result.now c.each.stage-index c.stage-item.result c.args.tree c.each.module_behind c.run_stage.new.tree c.in_ok-failures.failures
    c.width_of-bits.ensures c.as_slice-stages.ensures c.each-test.true
    (subst (λ (s : Stage). StageIs c.width_of-bits.result s c.each.module_behind c.run_stage.new.tree c.in_ok-failures.failures) c.stage-item.is c.in_ok-failures.ensures)
    (some_failed c.in_ok-failures.failures c.is_empty.result c.is_empty.ensures c.if-not-is_empty.true) c.each.invariant

pub each-preserved : goal.each-preserved
each-preserved g c = later_step c.width_of-bits.result c.as_slice-stages.result.now c.each.stage-index c.stage-item.result c.args.tree c.each.module_behind c.run_stage.new.tree c.in_ok-failures.failures c.each-test.true
    (subst (λ (s : Stage). StageIs c.width_of-bits.result s c.each.module_behind c.run_stage.new.tree c.in_ok-failures.failures) c.stage-item.is c.in_ok-failures.ensures)
    (none_failed c.in_ok-failures.failures c.is_empty.result c.is_empty.ensures c.if-not-is_empty.false) c.each.invariant

pub returns : goal.returns
returns g c = no_more c.args.pipeline.now c.width_of-bits.result c.as_slice-stages.result.now c.each.stage-index c.args.tree c.each.module_behind c.new.result c.width_of-bits.ensures c.as_slice-stages.ensures c.each-test.false c.new.ensures c.each.invariant
