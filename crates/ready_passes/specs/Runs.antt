-- How the passes convert.
use Rattle.std.specs.Prelude.{Bool, false, Option, Some, None}
use Rattle.conversion_model.specs.Targets.{Mode, Partial}
use Rattle.conversion_model.specs.Conversion.{Pass}
use Rattle.pipeline_text.specs.declared.pass.PassName.{PassName}
use Rattle.pattern_model.specs.PassTable.{pass_of}

abbrev pub mode_or : Option Pass → Mode
mode_or None = Partial
mode_or (Some p) = p.mode

-- the mode of a pass; one without a conversion counts as partial
abbrev pub pass_mode : PassName → Mode
pass_mode pass = mode_or (pass_of pass)

abbrev pub blocks_or : Option Pass → Bool
blocks_or None = false
blocks_or (Some p) = p.blocks

-- whether a pass converts the arguments of blocks
abbrev pub pass_blocks : PassName → Bool
pass_blocks pass = blocks_or (pass_of pass)
