-- A state of reading: what is counted before, and the events that are left. It goes over to another by an event.
use Rattle.std.proofs.Common.{◌≡◌, ℕ, Bool, false, List, [], ◌∷◌}
use Rattle.std.specs.Prelude.{codes}
use Rattle.std.specs.Str.{bytes_eq}
use Rattle.text_grammar.specs.declared.places.Place.{Place}
use Rattle.text_grammar.specs.declared.places.Place.TheVariants as places
use Rattle.text_events.specs.declared.event.Event.{Event}
use Rattle.text_types.specs.Items.{place_next}
use Rattle.text_scopes.specs.declared.bodies.Class.{Class}
use Rattle.text_scopes.specs.Bodies.{is_module}
use Rattle.text_kinds.specs.declared.shape.Shape.{Shape}
use Rattle.text_kinds.specs.Shapes.{begins, decides, misplaces, shape_behind}
use Rattle.term_table.specs.Terms.{Term}
use Rattle.event_trees.specs.declared.counts.Counts.{Counts}
use Rattle.event_trees.specs.Wording.{Wording}
use Rattle.event_trees.specs.Numbers.{Left, counted, defined_at, first_count, index_at, left_at, meant_at, meant_from, numbers_from, result_counts, waiting}
use Rattle.event_trees.specs.Roles.{Role, roles_of}
use Rattle.event_trees.specs.Levels.{Levels, levels_of}

-- what is known before the events that are left, and these with the terms that begin at them
pub record State : Type 0 where
  pub counts : Counts
  pub begun : Bool
  pub shape : Shape
  pub left : Left
  pub events : List Event
  pub terms : List Term

abbrev pub event : Place → ℕ → Event
event place name = record { place = place; name = name }

abbrev pub waits : State → List ℕ
waits x = waiting x.events x.terms

module _ (words : Wording) (class : ℕ → Class) (numbers : List ℕ) where
  abbrev pub roles_from : Counts → Left → List Event → List Term → List Role
  roles_from c left es ts = roles_of es (meant_from words numbers left es (numbers_from words class c es (result_counts es ts))) ts

  abbrev pub read_from : Counts → Left → List Event → List Term → Levels
  read_from c left es ts = levels_of words (roles_from c left es ts)

  -- the levels of the events that are left
  abbrev pub read : State → Levels
  read x = read_from x.counts x.left x.events x.terms

  -- the name of an operation that is a module is that of one
  abbrev pub NameTold : Event → Type 0
  NameTold e = e.place ≡ places.OpName → is_module (class e.name) ≡ bytes_eq (words.spelled e.name) (codes "builtin.module")

  abbrev pub NamesTold : List Event → Type 0
  NamesTold [] = Unit {0}
  NamesTold (e ∷ es) = NameTold e × NamesTold es

  -- one event, which is refused for nothing
  pub record Move (place : Place) (x y : State) : Type 0 where
    pub name : ℕ
    pub term : Term
    pub event_is : x.events ≡ event place name ∷ y.events
    pub term_is : x.terms ≡ term ∷ y.terms
    pub counted_so : y.counts ≡ counted words class x.counts (event place name) (first_count (waits y)) (place_next y.events)
    pub left_so : y.left ≡ left_at place x.left
    pub begun_so : y.begun ≡ begins x.begun place
    pub shape_so : y.shape ≡ shape_behind class x.shape (event place name)
    pub well_placed : misplaces class (record { body = x.counts.body; begun = x.begun }) (event place name) ≡ false
    pub undecided : decides x.shape place ≡ false
    pub told : NameTold (event place name)

  abbrev pub role : Place → State → State → ℕ → Term → Role
  role place x y name term = record { place = place; name = name; number = meant_at numbers x.left place (index_at words y.events) (defined_at x.counts place); term = term }
