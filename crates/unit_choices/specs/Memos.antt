-- What operations of a shape become, and memos of it.
use Rattle.std.specs.Prelude.{◌≡◌, ℕ, true, List, [], ◌∷◌, Some, ⊤}
use Rattle.plain_tree.specs.Types.{PlainType}
use Rattle.plain_tree.specs.Ops.{Op}
use Rattle.conversion_model.specs.Targets.{Mode, Shape, Target, demanded, shape_of}
use Rattle.conversion_model.specs.Templates.{Template}
use Rattle.conversion_model.specs.Rows.{Numbers, Pattern}
use Rattle.conversion_model.specs.Choice.{Line, choice}
use Rattle.row_code.specs.Shapes as trees
use Rattle.choice_code.specs.Plain.{plain_template}
use Rattle.unit_choices.specs.declared.memo.ShapeLine.{ShapeLine}

-- each operation of this shape becomes this template, whatever else it has
abbrev pub Becomes : ℕ → Target → List Pattern → Shape → Template → Type 0
Becomes bits target table s t = (new : Numbers) (type_of : ℕ → PlainType) (o : Op) → s ≡ shape_of type_of o → Some (Line t) ≡ choice bits target table new type_of o

-- and is demanded
pub record LineOf (bits : ℕ) (target : Target) (table : List Pattern) (mode : Mode) (s : Shape) (t : Template) : Type 0 where
  pub wanted : demanded mode target s ≡ true
  pub becomes : Becomes bits target table s t

-- each shape that is remembered is there with its line
abbrev pub Remembers : ℕ → Target → List Pattern → Mode → List ShapeLine → Type 0
Remembers bits target table mode [] = ⊤
Remembers bits target table mode (k ∷ ks) = LineOf bits target table mode (trees.shape_of k.shape) (plain_template k.line.value) × Remembers bits target table mode ks
