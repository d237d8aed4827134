-- A stage on a module.
use Rattle.std.specs.Prelude.{◌≡◌, ℕ, List, map}
use Rattle.tree_model.specs.declared.op_tree.ModuleTree.{ModuleTree}
use Rattle.plain_tree.specs.Ops.{plain_func}
use Rattle.pipeline_text.specs.declared.pass.Stage.{Stage}
use Rattle.pattern_model.specs.Fold.{Stood}
use Rattle.fold_model.specs.Runs.{StageRuns}
use Rattle.pass_fold.specs.declared.failure.FailureTree.{FailureTree}
use Rattle.pass_fold.specs.Views.{failure_view}

-- a module behind a stage, with its failures
abbrev pub stood_as : ModuleTree → List FailureTree → Stood
stood_as m failures = record { funcs = map plain_func m.funcs; failures = map failure_view failures }

-- what a stage makes of a module, whose dictionaries stay
pub record StageIs (bits : ℕ) (stage : Stage) (old new : ModuleTree) (failures : List FailureTree) : Type 0 where
  pub runs : StageRuns bits stage (map plain_func old.funcs) (stood_as new failures)
  pub props : new.props ≡ old.props
  pub attrs : new.attrs ≡ old.attrs
