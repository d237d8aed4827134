use Rattle.std.proofs.Common.{ap, ◌∙◌, map, []}
use Rattle.pattern_model.specs.OperationNames.{llvm_branches}
use Rattle.conversion_target.specs.declared.rule.LegalRule.TheVariants.{TypesOwn}
use Rattle.row_code.specs.Infos.{texts}
use Rattle.pass_targets.specs.Known.{others}
use Rattle.pass_targets.proofs.TargetLaws.{full_is}
use Rattle.pass_targets.proofs.build.full.Goals as goal

pub returns : goal.returns
returns c = full_is c.new-2.result
    (ap (λ n. n.always) c.new-2.ensures.names ∙ c.in_ok-always.ensures ∙ ap (λ d. others [] d (texts c.of_llvm.result.now)) c.branches.ensures ∙ ap (others [] llvm_branches) c.of_llvm.ensures)
    (ap (λ n. n.dynamic) c.new-2.ensures.names ∙ c.in_ok-dynamic.ensures ∙ c.branches-3.ensures)
    (c.new-2.ensures.rules ∙ c.in_ok-rules.ensures ∙ ap (map (λ n. TypesOwn)) c.branches-2.ensures)
    (c.new-2.ensures.illegal ∙ c.new.ensures)
