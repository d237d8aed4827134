use Rattle.std.proofs.Common.{List, map, refl, subst}
use Rattle.std.specs.Prelude.{Some}
use Rattle.tree_model.specs.declared.op_tree.FuncTree.{FuncTree}
use Rattle.plain_tree.specs.Ops.{plain_func}
use Rattle.fold_model.specs.Runs.{FunctionsRun}
use Rattle.pass_fold.specs.Views.{runs_at, stood_view}
use Rattle.pass_fold.proofs.RunLaws.{each_done}
use Rattle.pass_fold.proofs.stages.run_each.Goals as goal

pub returns : goal.returns
returns g c = each_done c.args.bits c.args.anchor c.args.uses.now c.args.tree.now (record { props = c.args.tree.now.props; attrs = c.args.tree.now.attrs; funcs = c.in_ok-stood.stood.funcs }) c.in_ok-stood.stood.failures
    (subst (λ (fs : List FuncTree). FunctionsRun c.args.bits (runs_at (Some c.args.anchor)) c.args.uses.now 0 (map plain_func fs) (stood_view c.in_ok-stood.stood)) c.as_slice-funcs.ensures c.in_ok-stood.ensures)
    refl refl
