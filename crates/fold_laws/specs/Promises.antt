-- What the law of pipelines promises.
use Rattle.std.specs.Prelude.{ℕ}
use Rattle.pipeline_text.specs.declared.pass.Pipeline.{Pipeline}
use Rattle.plain_tree.specs.Ops.{PlainModule}
use Rattle.rule_model.specs.Words.{AllOf}
use Rattle.rule_model.specs.Rules.{Verified}
use Rattle.conversion_model.specs.Conversion.{Supply}
use Rattle.pattern_model.specs.Fold.{folded, width}
use Rattle.sound_model.specs.Agreement.{AgreesS}
use Rattle.fold_model.specs.FreshFolds.{FreshStages}
use Rattle.kept_rules.specs.Promises.{IsWidth, KeptStage}

-- A verified module and the one that the fold of a pipeline of these passes makes of it agree at the pipeline's width, also where
-- the fold fails. The new numbers of each pass on a function are fresh for the function that it is run on.
abbrev pub FoldKeepsMeaning : Type 0
FoldKeepsMeaning = (new : ℕ → ℕ → ℕ → Supply) (p : Pipeline) (m : PlainModule) → IsWidth (width p.stages) → AllOf KeptStage p.stages → FreshStages new (width p.stages) 0 p.stages m.funcs → Verified m
    → AgreesS (width p.stages) m (folded new p m).module_behind
