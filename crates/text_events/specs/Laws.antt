-- What holds of every text.
use Rattle.std.specs.Prelude.{◌≡◌, List}
use Rattle.line_grammar.specs.Language.{ReadsText}
use Rattle.text_grammar.specs.declared.places.Place.{Place}
use Rattle.text_events.specs.Language.{Named, generic_text}

-- a text is read in one way
abbrev pub ReadsOnce : Type 0
ReadsOnce = (words : List Named) (ps qs : List Place) → ReadsText generic_text ps words → ReadsText generic_text qs words → ps ≡ qs
