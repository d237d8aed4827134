-- The text of a pipeline.
use Rattle.std.specs.Prelude.{ℕ, ◌==◌, List, [], ◌∷◌, ◌++◌, map, flat_map, codes, if◌then◌else◌}
use Rattle.pipeline_text.specs.declared.pass.PassUse.{PassUse}
use Rattle.pipeline_text.specs.declared.pass.Anchor.{Anchor}
use Rattle.pipeline_text.specs.declared.pass.Anchor.TheVariants.{FuncFunc, LlvmFunc}
use Rattle.pipeline_text.specs.Passes.{pass_text}
use Rattle.pipeline_text.specs.declared.pass.Stage.{Stage}
use Rattle.pipeline_text.specs.declared.pass.Stage.TheVariants.{Whole, Each}

-- texts with a comma between two
abbrev pub joined : List (List ℕ) → List ℕ
joined [] = []
joined (t ∷ ts) = t ++ flat_map (λ u. codes "," ++ u) ts

-- the option only where the width is not the usual one
abbrev pub option_text : ℕ → List ℕ
option_text bits = if bits == 32 then codes "{index-bitwidth=32}" else []

abbrev pub use_text : PassUse → List ℕ
use_text u = pass_text u.pass ++ option_text u.bits

abbrev pub anchor_text : Anchor → List ℕ
anchor_text FuncFunc = codes "func.func"
anchor_text LlvmFunc = codes "llvm.func"

abbrev pub stage_text : Stage → List ℕ
stage_text (Whole u) = use_text u
stage_text (Each a us) = anchor_text a ++ codes "(" ++ joined (map use_text us) ++ codes ")"

unfoldable pub printed : List Stage → List ℕ
printed stages = codes "builtin.module(" ++ joined (map stage_text stages) ++ codes ")"
