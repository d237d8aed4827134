-- Single steps of a run.
use Rattle.std.specs.Prelude.{◌≡◌, ℕ, Bool, List, [], ◌∷◌, ◌++◌, Option, Result, Ok, Err}
use Rattle.tree_model.specs.declared.op_tree.OpTree.{OpTree}
use Rattle.plain_tree.specs.Ops.{Op, plain_op}
use Rattle.conversion_model.specs.Conversion.{Unlegalised}
use Rattle.pipeline_text.specs.declared.pass.PassName.{PassName}
use Rattle.pipeline_text.specs.declared.pass.PassUse.{PassUse}
use Rattle.pattern_model.specs.Fold.{Failure, Ran, Stood, failure, failure_list}
use Rattle.fold_model.specs.Runs.{RunIf}
use Rattle.pass_fold.specs.declared.failure.FailureTree.{FailureTree}
use Rattle.pass_fold.specs.Makes.{PassMakes}
use Rattle.pass_fold.specs.Views.{failure_or_none, failure_view}

-- a pass that fails at an operation, and its failure
pub record Fails (pass : PassName) (bits function position : ℕ) (f : Op) (e : Failure) : Type 0 where
  pub at : Unlegalised
  pub makes : PassMakes pass bits f (Err at)
  pub says : e ≡ failure function position pass at

-- one pass on a function
abbrev pub StepIs : PassName → ℕ → ℕ → ℕ → Op → Result OpTree FailureTree → Type 0
StepIs pass bits function position f (Ok g) = PassMakes pass bits f (Ok (plain_op g))
StepIs pass bits function position f (Err e) = Fails pass bits function position f (failure_view e)

-- a function and its failure behind others
abbrev pub with_failed : Stood → Option FailureTree → Stood
with_failed s failed = record { funcs = s.funcs; failures = s.failures ++ failure_list (failure_or_none failed) }

abbrev pub with_function : Stood → Op → Stood
with_function s f = record { funcs = s.funcs ++ f ∷ []; failures = s.failures }

abbrev pub with_last : Stood → Ran → Stood
with_last s r = record { funcs = s.funcs ++ r.func ∷ []; failures = s.failures ++ failure_list r.failed }

-- one more function behind others, which is run or not
pub record RunsLast (runs : Bool) (bits function : ℕ) (us : List PassUse) (f : Op) (old new : Stood) : Type 0 where
  pub ran : Ran
  pub run : RunIf runs bits function us f ran
  pub is : new ≡ with_last old ran

-- others behind those that stand
abbrev pub joined : Stood → Stood → Stood
joined done s = record { funcs = done.funcs ++ s.funcs; failures = done.failures ++ s.failures }
