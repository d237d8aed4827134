-- What begins a text.
use Rattle.std.specs.Prelude.{List, [], ◌∷◌}
use Rattle.text_grammar.specs.declared.parts.Part.TheVariants as parts
use Rattle.text_grammar.specs.Table.{some, Wanted}

abbrev pub start : List Wanted
start = some parts.File ∷ []
