-- What the laws on rows promise.
use Rattle.std.specs.Prelude.{ℕ, List}
use Rattle.conversion_model.specs.Targets.{Target}
use Rattle.conversion_model.specs.Chosen.{chosen}
use Rattle.pattern_model.specs.ArithRows.{arith_set}
use Rattle.pattern_model.specs.ExpandRows.{expand_set}
use Rattle.line_rules.specs.Fits.{Fits}
use Rattle.fitting_rows.specs.Typed.{LeavesTyped}
use Rattle.fitting_rows.specs.Widths.{IsWidth}

-- What is chosen of the rows of arith-expand for an operation that fits, whatever the target, is steps that fit, of which
-- the last makes its result.
abbrev pub ExpandChosenFits : Type 0
ExpandChosenFits = (bits : ℕ) (target : Target) (path : List ℕ) → LeavesTyped Fits (chosen bits target expand_set path)

-- and so of the rows of convert-arith-to-llvm
abbrev pub ArithChosenFits : Type 0
ArithChosenFits = (bits : ℕ) → IsWidth bits → (target : Target) (path : List ℕ) → LeavesTyped Fits (chosen bits target arith_set path)
