-- What the machine in code does, against the machine of the grammar: its stack has the symbol that is wanted next at its end.
use Rattle.std.specs.Prelude.{◌≡◌, Bool, List, Option, Some, None, map}
use Rattle.line_grammar.specs.Machine.{Step, run, whole}
use Rattle.text_grammar.specs.declared.kinds.Kind.{Kind}
use Rattle.text_grammar.specs.declared.places.Place.{Place}
use Rattle.text_grammar.specs.declared.parts.Part.{Part}
use Rattle.text_grammar.specs.declared.words.Word.{Word}
use Rattle.text_grammar.specs.Table.{Wanted, generic}
use Rattle.text_grammar.specs.Text.{start}

-- the place at which a token was taken, and what is wanted then, are what the step gives
abbrev pub Takes : Option Place → List Wanted → Option (Step Place Part) → Type 0
Takes None wanted gives = gives ≡ None
Takes (Some place) wanted gives = gives ≡ Some (place, wanted)

abbrev pub kind_of : Word → Kind
kind_of word = word.kind

-- the places of the words that were taken, and whether they are a sentence
pub record Looked (places : List Place) (is_whole : Bool) (words : List Word) : Type 0 where
  pub taken : (run generic start (map kind_of words)).0 ≡ places
  pub is : whole generic (run generic start (map kind_of words)) ≡ is_whole
