-- What is one of all that a pipeline may make of a module.
use Rattle.std.specs.Prelude.{◌≡◌}
use Rattle.pipeline_text.specs.declared.pass.Pipeline.{Pipeline}
use Rattle.plain_tree.specs.Ops.{PlainModule}
use Rattle.text_model.specs.Printed.{module_text}
use Rattle.lowered_module.specs.declared.lowered.LoweredModule.{LoweredModule}
use Rattle.lowered_module.specs.Lowered.{IsLowered, lowered_view}

-- the same printed text, the same lines, and both failed or neither
pub record SameReply (a b : LoweredModule) : Type 0 where
  pub text : module_text a.module_behind ≡ module_text b.module_behind
  pub lines : a.lines ≡ b.lines
  pub failed : a.failed ≡ b.failed

abbrev pub OneLowering : Type 0
OneLowering = (p : Pipeline) (m : PlainModule) (a b : LoweredModule) → IsLowered p m (lowered_view a) → IsLowered p m (lowered_view b) → SameReply a b
