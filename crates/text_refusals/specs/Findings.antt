-- What is found of a text, and handed out.
use Rattle.std.specs.Prelude.{◌≡◌, ◌<◌, ◌^◌, ℕ, Bool, List, length}
use Rattle.text_events.specs.declared.event.Event.{Event}
use Rattle.term_table.specs.Terms.{Term}
use Rattle.text_types.specs.Spelling.{Spelling}
use Rattle.text_types.specs.Items.{begun}
use Rattle.text_types.specs.Aliases.{aliases_of}
use Rattle.text_types.specs.Marks.{marked}
use Rattle.text_types.specs.Stack.{Stands}
use Rattle.text_scopes.specs.declared.tables.Names.TheVariants as names
use Rattle.text_scopes.specs.Bodies.{class_in}
use Rattle.text_scopes.specs.Tables.{definitions}
use Rattle.text_refusals.specs.declared.findings.Findings.{Findings}
use Rattle.text_refusals.specs.Classes.{classes_of}
use Rattle.text_refusals.specs.Refusing.{Seen, IsSeen, events_seen, refusal_of}
use Rattle.text_refusals.specs.Spelling.{spelling_of}

-- the type or attribute that begins at each event
abbrev pub begun_at : Spelling → List Event → List Term
begun_at spelling es = begun spelling (aliases_of spelling (marked es)) (marked es)

-- what is handed out of a text of which this was seen
pub record AreFindings (text : List ℕ) (allowed : Bool) (s : Seen) (f : Findings) : Type 0 where
  pub refusal : f.refusal ≡ refusal_of text allowed s
  pub words : f.words.items ≡ s.words
  pub classes : f.classes.items ≡ classes_of text s.words
  pub events : f.events.items ≡ events_seen text s
  pub few : length f.events.items < 2 ^ 32
  pub begun : Stands f.terms.nodes.keys f.begun.items (begun_at (spelling_of text s.words) (events_seen text s))
  pub values : f.values.items ≡ definitions names.Values (class_in (classes_of text s.words)) (events_seen text s)
  pub labels : f.labels.items ≡ definitions names.Labels (class_in (classes_of text s.words)) (events_seen text s)

-- it is found of this text
abbrev pub Finds : List ℕ → Bool → Findings → Type 0
Finds text allowed f = (s : Seen) × IsSeen text s × AreFindings text allowed s f
