-- What is read has the form of a file.
use Rattle.std.specs.Prelude.{◌≡◌, List, [], ◌∷◌}
use Rattle.line_grammar.specs.Grammar.{Reads}
use Rattle.text_grammar.specs.declared.kinds.Kind.{Kind}
use Rattle.text_grammar.specs.declared.places.Place.{Place}
use Rattle.text_grammar.specs.Table.{generic}
use Rattle.text_grammar.specs.Text.{start}
use Rattle.text_forms.specs.Forms.{IsFile}

-- the next of these places
abbrev pub Next : Place → List Place → List Place → Type 0
Next p ps qs = ps ≡ p ∷ qs

abbrev pub ReadsAsFile : Type 0
ReadsAsFile = (places : List Place) (kinds : List Kind) → Reads generic start places kinds → IsFile Next places []
