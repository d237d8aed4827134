-- The roles of events in one pass from the left.
use Rattle.std.specs.Prelude.{ℕ, List, [], ◌∷◌}
use Rattle.text_events.specs.declared.event.Event.{Event}
use Rattle.text_types.specs.Spelling.{Spelling}
use Rattle.text_types.specs.Items.{Aliases, begins, begun, place_next}
use Rattle.text_scopes.specs.declared.bodies.Body.{Body}
use Rattle.text_scopes.specs.declared.bodies.Class.{Class}
use Rattle.event_trees.specs.declared.counts.Counts.{Counts}
use Rattle.event_trees.specs.Wording.{Wording}
use Rattle.event_trees.specs.Numbers.{Left, counted, defined_at, first_count, index_at, left_at, meant_at, waiting}
use Rattle.event_trees.specs.Roles.{Role}
use Rattle.printed_trees.specs.Numbering.{Count}

-- what is counted at a place of a function, before any result of an operation is named
abbrev pub at : Body → Count → Counts
at body c = record { body = body; values = c.values; named = 0; labels = c.labels }

module _ (words : Spelling) (wording : Wording) (aliases : Aliases) (class : ℕ → Class) (numbers : List ℕ) where
  -- the result counts of the function types behind, at whose operations' names one doesn't stand yet
  abbrev pub waits : List Event → List ℕ
  waits es = waiting es (begun words aliases es)

  abbrev pub role_at : Counts → Left → Event → List Event → Role
  role_at c left e es = record { place = e.place; name = e.name; number = meant_at numbers left e.place (index_at wording es) (defined_at c e.place); term = begins words aliases (e ∷ es) }

  -- the roles of events behind which nothing is, where so much is counted before them and these definitions are left
  abbrev pub roles_from : Counts → Left → List Event → List Role
  roles_from c left [] = []
  roles_from c left (e ∷ es) = role_at c left e es ∷ roles_from (counted wording class c e (first_count (waits es)) (place_next es)) (left_at e.place left) es
