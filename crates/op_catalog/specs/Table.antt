-- The table of operations, as contracts name it.
use Rattle.std.specs.Prelude.{ℕ, Bool, List, Option}
use Rattle.rule_model.specs.declared.shapes.Shape.{Shape}
use Rattle.rule_model.specs.Rows as rows
use Rattle.rule_model.specs.Parts as parts

-- the place of a name in the table, none where it has no row
unfoldable pub place_of : List ℕ → Option ℕ
place_of = rows.place_of

-- the shape of the operation of this name, none where it has no row
unfoldable pub shape_of : List ℕ → Option Shape
shape_of = rows.shape_of

-- the shape at a place
unfoldable pub shape_at : ℕ → Shape
shape_at = rows.shape_at

-- whether a property of this name is listed for a shape
unfoldable pub is_listed : Shape → List ℕ → Bool
is_listed = parts.is_listed
