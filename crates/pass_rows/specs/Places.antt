-- The pattern at a place of a set.
use Rattle.std.specs.Prelude.{Option, Some, None, slice_get}
use Rattle.conversion_model.specs.Rows.{Pattern}
use Rattle.pass_rows.specs.declared.places.Place.{Place}
use Rattle.pass_rows.specs.Parts.{patterns_in}

abbrev pub pattern_at : Option Place → Option Pattern
pattern_at None = None
pattern_at (Some p) = slice_get (patterns_in p.part) p.at
