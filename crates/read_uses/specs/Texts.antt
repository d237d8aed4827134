-- A text as moves from its first event to the end.
use Rattle.std.specs.Prelude.{◌≡◌, ℕ, false, List, []}
use Rattle.tree_model.specs.declared.op_tree.ModuleTree.{ModuleTree}
use Rattle.text_grammar.specs.declared.places.Place.{Place}
use Rattle.text_events.specs.declared.event.Event.{Event}
use Rattle.text_events.specs.Names.{names_of}
use Rattle.text_events.specs.Source.{events_of}
use Rattle.text_types.specs.Spelling.{Spelling}
use Rattle.text_types.specs.Aliases.{aliases_of}
use Rattle.text_types.specs.Marks.{marked}
use Rattle.text_scopes.specs.declared.bodies.Class.{Class}
use Rattle.text_scopes.specs.declared.tables.Names.TheVariants as names
use Rattle.text_scopes.specs.Bodies.{class_in}
use Rattle.text_scopes.specs.Tables.{definitions}
use Rattle.text_kinds.specs.Shapes.{first_shape}
use Rattle.text_kinds.specs.Tallies.{start as no_tally}
use Rattle.type_kinds.specs.Counts.{none_held}
use Rattle.use_kinds.specs.Written.{no_operation, types_from}
use Rattle.text_refusals.specs.Classes.{classes_of}
use Rattle.text_refusals.specs.Refusing.{IsSeen, Seen}
use Rattle.text_refusals.specs.Spelling.{indexes_of, spelling_of}
use Rattle.event_trees.specs.Wording.{Wording, wording_of}
use Rattle.event_trees.specs.Numbers.{no_counts}
use Rattle.event_trees.specs.Roles.{numbers_at, terms_at}
use Rattle.tree_reading.specs.Reading.{denoted_by}
use Rattle.read_uses.specs.Fine.{File}
use Rattle.read_uses.specs.Moved.{Full, Moved}

-- before the first of these events
abbrev pub begin_at : Spelling → (ℕ → Class) → List Event → Full
begin_at sp class es = record {
  state = record { counts = no_counts; begun = false; shape = first_shape; left = record { values = definitions names.Values class es; labels = definitions names.Labels class es }; events = es; terms = terms_at sp es };
  before = [];
  waits = no_operation;
  held = none_held;
  tally = no_tally;
}

-- over the events of a text
abbrev pub MovesOf : Spelling → (ℕ → ℕ) → Wording → (ℕ → Class) → List Event → Place → Full → Full → Type 0
MovesOf sp index words class es p x y =
    Moved sp index (aliases_of sp (marked es)) words class es (numbers_at words class es (terms_at sp es)) (types_from sp (aliases_of sp (marked es)) no_operation (marked es)) p x y

abbrev pub events_in : List ℕ → Seen → List Event
events_in text s = events_of s.places (names_of text s.words)

-- the events of the text are a file, one move after the other, and denote the module
pub record IsRun (text : List ℕ) (A : ModuleTree) : Type 0 where
  pub seen : Seen
  pub is_seen : IsSeen text seen
  pub denotes : A ≡ denoted_by text seen
  pub last : Full
  pub over : last.state.events ≡ []
  pub file : File (MovesOf (spelling_of text seen.words) (indexes_of text seen.words) (wording_of text seen.words) (class_in (classes_of text seen.words)) (events_in text seen))
      (begin_at (spelling_of text seen.words) (class_in (classes_of text seen.words)) (events_in text seen)) last
