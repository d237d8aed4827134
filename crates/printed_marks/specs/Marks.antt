-- Printed modules have nothing that is marked.
use Rattle.std.specs.Prelude.{◌≡◌, List}
use Rattle.plain_tree.specs.Ops.{PlainModule}
use Rattle.text_events.specs.declared.event.Event.{Event}
use Rattle.text_types.specs.Spelling.{Spelling}
use Rattle.text_types.specs.Marks.{marked}
use Rattle.event_trees.specs.Wording.{Wording}
use Rattle.printed_modules.specs.ModuleWords.{module_words}
use Rattle.printed_terms.specs.Told.{Told}

-- the events of a printed module, marked, are the events
abbrev pub NothingIsMarked : Type 0
NothingIsMarked = (words : Spelling) (wording : Wording) (m : PlainModule) (es : List Event) → Told words wording (module_words m) es → marked es ≡ es
