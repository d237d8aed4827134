-- Which patterns are for converted types, from what they say of themselves.
use Rattle.std.specs.Prelude.{ℕ, Bool, false, List, Option, Some, None, slice_get}
use Rattle.legal_graph.specs.declared.infos.PatternInfo.{PatternInfo}

abbrev pub converted_or_not : Option PatternInfo → Bool
converted_or_not None = false
converted_or_not (Some i) = i.converted

abbrev pub converted_in : List PatternInfo → ℕ → Bool
converted_in infos place = converted_or_not (slice_get infos place)
