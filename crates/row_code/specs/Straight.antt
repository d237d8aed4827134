-- Straight rows by their places.
use Rattle.std.specs.Prelude.{ℕ, Option, Some, None}
use Rattle.conversion_model.specs.Templates.{Template}
use Rattle.conversion_model.specs.Targets.{Shape}
use Rattle.conversion_model.specs.Rows.{Row, Straight, Cutting, Framing, Pattern}

-- a product has no regions, so a row that cuts or frames gives no template
abbrev pub straight : Row → Shape → Option Template
straight (Straight row) o = row o
straight (Cutting row) o = None
straight (Framing row) o = None

abbrev pub straight_at : ℕ → Option Pattern → Shape → Option Template
straight_at bits None o = None
straight_at bits (Some p) o = straight (p.row bits) o
