-- Lists of types by the numbers of a table, one behind another.
use Rattle.std.specs.Prelude.{◌≡◌, ◌≤◌, ℕ, zero, suc, ◌-◌, List, [], ◌∷◌, ◌++◌, Option, Some, None, take, drop, length, map}
use Rattle.text_grammar.specs.declared.places.Place.{Place}
use Rattle.text_grammar.specs.declared.places.Place.TheVariants as places
use Rattle.text_events.specs.declared.event.Event.{Event}
use Rattle.term_table.specs.declared.node.Node.{Node}
use Rattle.term_table.specs.Terms.{Term, term_at}
use Rattle.text_types.specs.Spelling.{Spelling}
use Rattle.text_types.specs.Items.{Aliases, begun}
use Rattle.text_types.specs.Stack.{Stands}
use Rattle.use_kinds.specs.declared.rows.Row.{Row}
use Rattle.use_kinds.specs.declared.rows.Cursor.{Cursor}
use Rattle.use_kinds.specs.Written.{Waiting, no_operation, signature_behind, types_from, types_in}

-- how many events stand from the function type on of what is read at each event: 0 where there is none
abbrev pub signatures_of : List Event → List ℕ
signatures_of [] = []
signatures_of (e ∷ es) = length (signature_behind (e ∷ es) 0) ∷ signatures_of es

-- one event more, with which so many are left, from the right
abbrev pub left_passed : Place → ℕ → (ℕ → ℕ) → ℕ → ℕ
left_passed places.SignatureOpen left behind zero = left
left_passed places.RegionOpen left behind over = behind (suc over)
left_passed places.RegionClose left behind zero = 0
left_passed places.RegionClose left behind (suc over) = behind over
left_passed _ left behind over = behind over

-- the part of the numbers that a row names
abbrev pub cut : List ℕ → Row → List ℕ
cut items row = take (row.end - row.start) (drop row.start items)

abbrev pub row_types : List Node → List ℕ → Row → List Term
row_types nodes items row = map (term_at nodes) (cut items row)

-- no row goes beyond the numbers
abbrev pub RowsWithin : ℕ → List Row → Type 0
RowsWithin count [] = Unit {0}
RowsWithin count (row ∷ rows) = (row.end ≤ count) × RowsWithin count rows

-- the types of the rows
abbrev pub rows_types : List Node → List ℕ → List Row → List (List Term)
rows_types nodes items rows = map (row_types nodes items) rows

-- the numbers with more behind them, which stand for these types
pub record Added (nodes : List Node) (old new : List ℕ) (types : List Term) : Type 0 where
  pub more : List ℕ
  pub is : new ≡ old ++ more
  pub stands : Stands nodes more types

abbrev pub waiting_results : List Node → Option ℕ → Option (List Term)
waiting_results nodes None = None
waiting_results nodes (Some list) = Some (types_in (term_at nodes list))

-- what a cursor's lists stand for
abbrev pub waits : List Node → Cursor → Waiting
waits nodes c = record { inputs = types_in (term_at nodes c.inputs); results = waiting_results nodes c.results }

abbrev pub within_some : ℕ → Option ℕ → Type 0
within_some last None = Unit {0}
within_some last (Some n) = n ≤ last

-- a cursor's lists are of the table
abbrev pub CursorWithin : ℕ → Cursor → Type 0
CursorWithin last c = (c.inputs ≤ last) × within_some last c.results

-- what code keeps of a text: the numbers of what begins at its events, the function types of what is read there, and the types of what is named
pub record Says (words : Spelling) (aliases : Aliases) (nodes : List Node) (es : List Event) (numbers signatures items : List ℕ) (rows : List Row) : Type 0 where
  pub begun : Stands nodes numbers (begun words aliases es)
  pub behind : signatures ≡ signatures_of es
  pub types : rows_types nodes items rows ≡ types_from words aliases no_operation es
