-- What holds of every text.
use Rattle.std.specs.Prelude.{◌≡◌, ℕ, List, Option}
use Rattle.mlir_lex.specs.declared.LexFault.{LexFault}
use Rattle.line_grammar.specs.Grammar.{Reads}
use Rattle.text_grammar.specs.declared.kinds.Kind.{Kind}
use Rattle.text_grammar.specs.declared.places.Place.{Place}
use Rattle.text_grammar.specs.Table.{generic}
use Rattle.text_grammar.specs.Text.{start}
use Rattle.text_grammar.specs.declared.words.Word.{Word}
use Rattle.text_grammar.specs.Words.{AreWords}

-- words have the form of a text in one way
abbrev pub ReadsOnce : Type 0
ReadsOnce = (kinds : List Kind) (ps qs : List Place) → Reads generic start ps kinds → Reads generic start qs kinds → ps ≡ qs

-- a text is cut into words in one way
abbrev pub CutOnce : Type 0
CutOnce = (text : List ℕ) (ws vs : List Word) (f g : Option LexFault) → AreWords text ws f → AreWords text vs g → (ws ≡ vs) × (f ≡ g)
