-- Modules that are read are settled.
use Rattle.std.specs.Prelude.{◌≡◌, ℕ, true, List}
use Rattle.plain_tree.specs.Ops.{plain_module}
use Rattle.text_events.specs.declared.event.Event.{Event}
use Rattle.text_types.specs.Spelling.{Spelling}
use Rattle.text_scopes.specs.declared.bodies.Class.{Class}
use Rattle.event_trees.specs.Wording.{Wording}
use Rattle.event_trees.specs.Modules.{denoted}
use Rattle.printed_trees.specs.Laws.{is_settled_module}

abbrev pub ReadIsSettled : Type 0
ReadIsSettled = (words : Spelling) (wording : Wording) (class : ℕ → Class) (es : List Event) → is_settled_module (plain_module (denoted words wording class es)) ≡ true
