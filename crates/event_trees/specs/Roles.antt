-- The events of a text with what their words stand for.
use Rattle.std.specs.Prelude.{ℕ, List, [], ◌∷◌}
use Rattle.text_grammar.specs.declared.places.Place.{Place}
use Rattle.text_events.specs.declared.event.Event.{Event}
use Rattle.term_table.specs.Terms.{Term}
use Rattle.text_types.specs.Spelling.{Spelling}
use Rattle.text_types.specs.Marks.{marked}
use Rattle.text_types.specs.Items.{begun}
use Rattle.text_types.specs.Aliases.{aliases_of}
use Rattle.text_scopes.specs.declared.bodies.Class.{Class}
use Rattle.text_scopes.specs.declared.tables.Names.TheVariants as names
use Rattle.text_scopes.specs.Tables.{definitions}
use Rattle.event_trees.specs.Wording.{Wording}
use Rattle.event_trees.specs.Numbers.{no_counts, result_counts, numbers_from, meant_from}

-- a word at its place, with its name, the number of the value or label that it defines or uses, and the type or attribute that begins there
pub record Role : Type 0 where
  pub place : Place
  pub name : ℕ
  pub number : ℕ
  pub term : Term

abbrev pub roles_of : List Event → List ℕ → List Term → List Role
roles_of [] numbers ts = []
roles_of (e ∷ es) [] ts = []
roles_of (e ∷ es) (n ∷ numbers) [] = []
roles_of (e ∷ es) (n ∷ numbers) (t ∷ ts) = record { place = e.place; name = e.name; number = n; term = t } ∷ roles_of es numbers ts

-- the term that begins at each event: aliases stand for what they were defined as
abbrev pub terms_at : Spelling → List Event → List Term
terms_at spelling es = begun spelling (aliases_of spelling (marked es)) (marked es)

-- the number at each definition
abbrev pub numbers_at : Wording → (ℕ → Class) → List Event → List Term → List ℕ
numbers_at words class es ts = numbers_from words class no_counts es (result_counts es ts)

-- the number at each event: a use has that of the definition for which it stands
abbrev pub meant : Wording → (ℕ → Class) → List Event → List ℕ → List ℕ
meant words class es numbers = meant_from words numbers (record { values = definitions names.Values class es; labels = definitions names.Labels class es }) es numbers

-- the roles of events whose terms are these
abbrev pub roles_with : Wording → (ℕ → Class) → List Event → List Term → List Role
roles_with words class es ts = roles_of es (meant words class es (numbers_at words class es ts)) ts

abbrev pub roles_at : Spelling → Wording → (ℕ → Class) → List Event → List Role
roles_at spelling words class es = roles_with words class es (terms_at spelling es)
