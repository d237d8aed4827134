-- What the law of chosen derivations promises.
use Rattle.std.specs.Prelude.{◌≡◌, ℕ, false, List, Some}
use Rattle.conversion_model.specs.Templates.{Template}
use Rattle.conversion_model.specs.Targets.{Shape, Target, is_legal}
use Rattle.conversion_model.specs.Rows.{Pattern}
use Rattle.conversion_model.specs.Chosen.{chosen}
use Rattle.sound_model.specs.Runs.{root_form}
use Rattle.sound_model.specs.Soundness.{FitIfRoot, IsReplaceable, RowsSound, Sound}

-- For any table of sound rows, any target and any width of an index: the chosen derivation of an operation that is as the
-- rules ask is sound, and an operation that isn't legal may be replaced by it.
abbrev pub ChosenSound : Type 0
ChosenSound = (bits : ℕ) (target : Target) (table : List Pattern) → RowsSound bits table
    → (path : List ℕ) (o : Shape) (t : Template) → FitIfRoot table o → chosen bits target table path o ≡ Some t
    → Sound bits o t × (is_legal target o ≡ false → IsReplaceable (root_form bits o) o.results)
