-- In a whole text each of these types begins a term.
use Rattle.std.specs.Prelude.{◌≡◌, ℕ, List, map, Option, None}
use Rattle.mlir_lex.specs.declared.LexFault.{LexFault}
use Rattle.line_grammar.specs.Language.{events}
use Rattle.text_grammar.specs.declared.places.Place.{Place}
use Rattle.text_grammar.specs.declared.words.Word.{Word}
use Rattle.text_grammar.specs.Steps.{kind_of}
use Rattle.text_grammar.specs.Words.{AreWords}
use Rattle.text_events.specs.Language.{named, nothing_before}
use Rattle.text_events.specs.Looking.{first_refusal}
use Rattle.text_events.specs.Names.{names_of}
use Rattle.text_events.specs.Source.{events_of}
use Rattle.text_types.specs.Aliases.{aliases_of}
use Rattle.text_types.specs.Marks.{marked}
use Rattle.line_grammar.specs.Grammar.{Reads}
use Rattle.text_grammar.specs.declared.kinds.Kind.{Kind}
use Rattle.text_grammar.specs.Table.{generic}
use Rattle.text_grammar.specs.Text.{start}
use Rattle.text_events.specs.declared.event.Event.{Event}
use Rattle.text_types.specs.Spelling.{Spelling}
use Rattle.text_types.specs.Items.{Aliases}
use Rattle.begun_types.specs.Begun.{AreBegun, AreServed}

abbrev pub TypesBegin : Type 0
TypesBegin = (words : Spelling) (aliases : Aliases) (es : List Event) (kinds : List Kind) → Reads generic start (map (λ (e : Event). e.place) es) kinds → AreServed aliases es → AreBegun words aliases es

-- of a text whose words are a file, at whose words looking ends nowhere, each alias stands for what the text defines
abbrev pub TextTypesBegin : Type 0
TextTypesBegin = (text : List ℕ) (ws : List Word) (fault : Option LexFault) (words : Spelling) (ps : List Place) → AreWords text ws fault → Reads generic start ps (map kind_of ws)
    → first_refusal nothing_before (events ps (named ws (names_of text ws))) ≡ None → AreBegun words (aliases_of words (marked (events_of ps (names_of text ws)))) (events_of ps (names_of text ws))
