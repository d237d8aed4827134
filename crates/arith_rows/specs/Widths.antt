-- Widths of integers.
use Rattle.std.specs.Prelude.{ℕ, Option, Some, None}
use Rattle.plain_tree.specs.Types.{PlainType, Int}

abbrev pub width_of : PlainType → Option ℕ
width_of (Int width) = Some width
width_of t = None
