-- What a pipeline makes of a module.
use Rattle.std.specs.Prelude.{◌≡◌, ℕ, Bool, not, List}
use Rattle.pipeline_text.specs.declared.pass.Pipeline.{Pipeline}
use Rattle.plain_tree.specs.Ops.{PlainModule, plain_module}
use Rattle.pattern_model.specs.Fold.{Folded, is_success}
use Rattle.fold_model.specs.FreshFolds.{IsFold}
use Rattle.lowered_module.specs.declared.lowered.LoweredModule.{LoweredModule}
use Rattle.lowered_module.specs.Lines.{all_lines, lines_text}

-- a module behind a pipeline, the text of the lines on what failed, and whether a pass failed
pub record Lowered : Type 0 where
  pub module_behind : PlainModule
  pub lines : List ℕ
  pub failed : Bool

-- how a fold is told: where no pass failed there are no lines
abbrev pub told : Folded → Lowered
told f = record { module_behind = f.module_behind; lines = lines_text (all_lines f.module_behind.funcs f.failures); failed = not (is_success f) }

-- the fold of the pipeline over the module, with some new numbers that are fresh
pub record IsLowered (p : Pipeline) (m : PlainModule) (r : Lowered) : Type 0 where
  pub fold : Folded
  pub folds : IsFold p m fold
  pub is : r ≡ told fold

abbrev pub lowered_view : LoweredModule → Lowered
lowered_view r = record { module_behind = plain_module r.module_behind; lines = r.lines; failed = r.failed }
