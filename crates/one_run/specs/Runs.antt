-- Runs of all that a pipeline may make of a module.
use Rattle.pipeline_text.specs.declared.pass.Pipeline.{Pipeline}
use Rattle.plain_tree.specs.Ops.{PlainModule}
use Rattle.lowered_module.specs.declared.lowered.LoweredModule.{LoweredModule}
use Rattle.lowered_module.specs.Lowered.{IsLowered, lowered_view}
use Rattle.run_renames.specs.Promises.{SameRun}

-- whichever new numbers were taken: the same runs of S and of L, functions that show the same, and operations of the same names
abbrev pub OneRun : Type 0
OneRun = (p : Pipeline) (m : PlainModule) (a b : LoweredModule) → IsLowered p m (lowered_view a) → IsLowered p m (lowered_view b) → SameRun a.module_behind b.module_behind
