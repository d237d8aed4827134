-- Function types with other numbers of types than the operation has operands and named results.
use Rattle.std.specs.Prelude.{ℕ, ◌+◌, ◌-◌, ◌&&◌, ◌||◌, Bool, true, false, not, List, [], ◌∷◌, Option, nat_eq, nat_lt, min, if◌then◌else◌}
use Rattle.text_grammar.specs.declared.places.Place.{Place}
use Rattle.text_grammar.specs.declared.places.Place.TheVariants as places
use Rattle.text_events.specs.declared.event.Event.{Event}
use Rattle.term_table.specs.declared.node.Form.{Form}
use Rattle.term_table.specs.declared.node.Form.TheVariants as forms
use Rattle.term_table.specs.Terms.{Term, nothing, node}
use Rattle.text_types.specs.Spelling.{Spelling}
use Rattle.text_types.specs.Items.{Aliases, begins}
use Rattle.type_kinds.specs.declared.counts.Counts.{Counts}
use Rattle.type_kinds.specs.First.{first_in}

-- numbers of operands and results count up to 2^32 - 1, which no text reaches
abbrev pub capped : ℕ → ℕ
capped n = min n 4294967295

abbrev pub is_list : Form → Bool
is_list forms.Types = true
is_list _ = false

-- how many types a list has
abbrev pub count_types : Term → ℕ
count_types nothing = 0
count_types (node form value first more) = if is_list form then 1 + count_types more else 0

-- an operation without operands and results so far
abbrev pub no_counts : Counts
no_counts = record { operands = 0; names = 0 }

-- a function type that is complete has as many inputs as there are operands, and as many results as there are names, where there are any
abbrev pub is_wrong : Counts → Term → Bool
is_wrong counts nothing = false
is_wrong counts (node form value inputs results) =
    not (nat_eq (count_types inputs) counts.operands) || (nat_lt 0 counts.names && not (nat_eq (count_types results) counts.names))

-- the operation that is read, and those whose regions are open, the innermost first
pub record Held : Type 0 where
  pub now : Counts
  pub outer : List Counts

abbrev pub held : Counts → List Counts → Held
held now outer = record { now = now; outer = outer }

abbrev pub closed_region : List Counts → Held
closed_region [] = record { now = no_counts; outer = [] }
closed_region (counts ∷ outer) = record { now = counts; outer = outer }

abbrev pub held_behind : Spelling → Place → ℕ → Held → Held
-- an operand
held_behind words places.UseName name s = record { now = record { operands = capped (s.now.operands + 1); names = s.now.names }; outer = s.outer }
-- a name of one result
held_behind words places.ResultName name s = record { now = record { operands = s.now.operands; names = capped (s.now.names + 1) }; outer = s.outer }
-- or of so many
held_behind words places.ResultNumber name s = record { now = record { operands = s.now.operands; names = capped (s.now.names - 1 + capped (words.number name)) }; outer = s.outer }
-- behind its function type another operation may begin
held_behind words places.SignatureOpen name s = record { now = no_counts; outer = s.outer }
held_behind words places.RegionOpen name s = record { now = no_counts; outer = s.now ∷ s.outer }
held_behind words places.RegionClose name s = closed_region s.outer
held_behind words _ name s = s

abbrev pub is_signature : Place → Bool
is_signature places.SignatureOpen = true
is_signature _ = false

abbrev pub pass_counts : Spelling → Held → Event → List Event → Held
pass_counts words s e behind = held_behind words e.place e.name s

abbrev pub miscounts : Spelling → Aliases → Held → Event → List Event → Bool
miscounts words aliases s e behind = is_signature e.place && is_wrong s.now (begins words aliases (e ∷ behind))

abbrev pub none_held : Held
none_held = record { now = no_counts; outer = [] }

-- the first function type with another number of types
abbrev pub first_miscount : Spelling → Aliases → List Event → Option ℕ
first_miscount words aliases events = first_in (pass_counts words) (miscounts words aliases) none_held events
