use Rattle.std.proofs.Common.{List, [], ◌∷◌, map, subst}
use Rattle.std.specs.Prelude.{true}
use Rattle.tree_model.specs.declared.op_tree.FuncTree.{FuncTree}
use Rattle.plain_tree.specs.Ops.{plain_func}
use Rattle.fold_model.specs.Runs.{FunctionsRun}
use Rattle.pass_fold.specs.Views.{stood_view}
use Rattle.pass_fold.proofs.RunLaws.{none_failed, some_failed, whole_done, whole_kept}
use Rattle.pass_fold.proofs.stages.run_whole.Goals as goal

pub returns-then-not-is_empty : goal.returns-then-not-is_empty
returns-then-not-is_empty g c = whole_kept c.args.bits c.args.used c.args.tree.now (record { props = c.args.tree.now.props; attrs = c.args.tree.now.attrs; funcs = c.in_ok-funcs.field-0.funcs }) c.in_ok-funcs.field-0.failures
    (subst (λ (fs : List FuncTree). FunctionsRun c.args.bits (λ f. true) (c.args.used ∷ []) 0 (map plain_func fs) (stood_view c.in_ok-funcs.field-0)) c.as_slice-before.ensures c.in_ok-funcs.ensures)
    (some_failed c.in_ok-funcs.field-0.failures c.is_empty.result c.is_empty.ensures c.if-not-is_empty.true)

pub returns : goal.returns
returns g c = whole_done c.args.bits c.args.used c.args.tree.now (record { props = c.args.tree.now.props; attrs = c.args.tree.now.attrs; funcs = c.in_ok-funcs.field-0.funcs }) c.module_step.new.tree c.in_ok-funcs.field-0.failures
    (subst (λ (fs : List FuncTree). FunctionsRun c.args.bits (λ f. true) (c.args.used ∷ []) 0 (map plain_func fs) (stood_view c.in_ok-funcs.field-0)) c.as_slice-before.ensures c.in_ok-funcs.ensures)
    (none_failed c.in_ok-funcs.field-0.failures c.is_empty.result c.is_empty.ensures c.if-not-is_empty.false)
    c.in_ok-module_step.ensures.funcs c.in_ok-module_step.ensures.props c.in_ok-module_step.ensures.attrs
