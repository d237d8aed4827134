-- Uses of values that clash with their definitions.
use Rattle.std.specs.Prelude.{ℕ, suc, ◌+◌, ◌-◌, Bool, true, false, List, [], ◌∷◌, Option, Some, None, drop, get_or, length, max, nat_le, if◌then◌else◌}
use Rattle.text_grammar.specs.declared.places.Place.{Place}
use Rattle.text_grammar.specs.declared.places.Place.TheVariants as places
use Rattle.text_events.specs.declared.event.Event.{Event}
use Rattle.term_table.specs.Terms.{Term, nothing, node}
use Rattle.text_types.specs.Spelling.{Spelling}
use Rattle.text_types.specs.Items.{Aliases, begins}
use Rattle.text_scopes.specs.declared.bodies.Class.{Class}
use Rattle.text_scopes.specs.declared.tables.Names.TheVariants as names
use Rattle.text_scopes.specs.Tables.{definitions}
use Rattle.text_kinds.specs.declared.found.Found.{Found}
use Rattle.text_kinds.specs.declared.found.Kind.{Kind}
use Rattle.text_kinds.specs.declared.found.Kind.TheVariants as kinds
use Rattle.text_kinds.specs.Kinds.{least_of}
use Rattle.use_kinds.specs.Same.{same_term}
use Rattle.use_kinds.specs.Written.{written_from, count_of, types_from, no_operation}

-- what a text says of values where it names them
pub record Named : Type 0 where
  -- the event at which their types are written, where these are whole: the `(` of the operation's function type, or the type of the block argument
  pub place : Option ℕ
  -- how many values the name stands for
  pub count : ℕ
  -- which of them is used
  pub index : ℕ
  -- their types
  pub types : List Term

-- the later of both places, where both are whole
abbrev pub later : Option ℕ → Option ℕ → Option Kind → Option Found
later (Some one) (Some other) (Some kind) = Some (record { place = max one other; kind = kind })
later _ _ _ = None

-- there is no value of this index, or it has another type
abbrev pub fault_of : Named → Named → Option Kind
fault_of used definition =
    if nat_le definition.count used.index then Some kinds.ResultIndex
    else if same_term (get_or used.types 0 nothing) (get_or definition.types used.index nothing) then None else Some kinds.UseType

-- a use that clashes with its definition does so at the later of the places at which their types are written
abbrev pub clash_of : Named → Named → Option Found
clash_of used definition = later used.place definition.place (fault_of used definition)

-- What is said at an event

abbrev pub is_hash : Place → Bool
is_hash places.UseNumber = true
is_hash _ = false

-- the index behind the `#` of a use, or 0
abbrev pub index_of : (ℕ → ℕ) → List Event → ℕ
index_of index [] = 0
index_of index (e ∷ es) = if is_hash e.place then index e.name else 0

-- of a text of so many events, the event with which these begin, where a type or a function type begins there and is whole
abbrev pub whole_at : ℕ → Term → List Event → Option ℕ
whole_at total nothing from = None
whole_at total (node form value left right) from = Some (total - length from)

module _ (words : Spelling) (index : ℕ → ℕ) (aliases : Aliases) (es : List Event) where
  -- where the types of the name with which these begin are written
  abbrev pub place_from : List Event → Option ℕ
  place_from [] = None
  place_from (e ∷ behind) = whole_at (length es) (begins words aliases (written_from e.place behind)) (written_from e.place behind)

  -- what is said of the values that an event names
  abbrev pub named : ℕ → Named
  named event = record {
    place = place_from (drop event es);
    count = count_of words (drop (event + 1) es);
    index = index_of index (drop (event + 1) es);
    types = get_or (types_from words aliases no_operation es) event [];
  }

  -- a use without a definition clashes with none
  abbrev pub clash_at : ℕ → Option ℕ → Option Found
  clash_at used None = None
  clash_at used (Some definition) = clash_of (named used) (named definition)

abbrev pub is_use : Place → Bool
is_use places.UseName = true
is_use _ = false

abbrev pub next_of : List (Option ℕ) → Option ℕ
next_of [] = None
next_of (o ∷ os) = o

-- each use, with the definition for which it stands
abbrev pub clashes_from : (ℕ → Option ℕ → Option Found) → ℕ → List Event → List (Option ℕ) → List (Option Found)
clashes_from clash event [] defs = []
clashes_from clash event (e ∷ es) defs =
    if is_use e.place then clash event (next_of defs) ∷ clashes_from clash (suc event) es (drop 1 defs) else clashes_from clash (suc event) es defs

abbrev pub clashes : Spelling → (ℕ → ℕ) → Aliases → (ℕ → Class) → List Event → List (Option Found)
clashes words index aliases class es = clashes_from (clash_at words index aliases es) 0 es (definitions names.Values class es)

-- the first of all clashes, by its place; at one place other types come before a missing value
abbrev pub first_clash : Spelling → (ℕ → ℕ) → Aliases → (ℕ → Class) → List Event → Option Found
first_clash words index aliases class es = least_of (clashes words index aliases class es)
