-- Numbers out of their ranges.
use Rattle.std.specs.Prelude.{ℕ, ◌-◌, ◌^◌, ◌&&◌, Bool, not, true, false, List, [], ◌∷◌, Option, Some, None, nat_lt, nat_le, min, if◌then◌else◌}
use Rattle.text_grammar.specs.declared.places.Place.{Place}
use Rattle.text_grammar.specs.declared.places.Place.TheVariants as places
use Rattle.text_events.specs.declared.event.Event.{Event}
use Rattle.term_table.specs.declared.node.Form.{Form}
use Rattle.term_table.specs.declared.node.Form.TheVariants as forms
use Rattle.term_table.specs.Terms.{Term, nothing, node}
use Rattle.text_types.specs.Spelling.{Spelling}
use Rattle.text_types.specs.Items.{Aliases}
use Rattle.type_kinds.specs.First.{first_in}

-- a width as it is used: no integer is wider than 64 bits
abbrev pub narrow : ℕ → ℕ
narrow width = min width 64

-- the width of an integer type that is written: that of `index` is 64
abbrev pub written_width : Option ℕ → ℕ
written_width (Some width) = narrow width
written_width None = 64

abbrev pub form_width : Form → ℕ → ℕ
form_width forms.Int value = narrow value
form_width _ value = 64

-- the width of the integer type of an alias
abbrev pub term_width : Term → ℕ
term_width nothing = 64
term_width (node form value left right) = form_width form value

-- iN takes the numbers from -2^(N-1) to 2^N - 1
abbrev pub unfits : Bool → ℕ → ℕ → Bool
unfits true width number = nat_lt (2 ^ (width - 1)) number
unfits false width number = nat_le (2 ^ width) number

-- the width of the type at an event, where one is read
abbrev pub width_at : Spelling → Aliases → Place → ℕ → Option ℕ
width_at words aliases places.ElementWord name = Some (written_width (words.width name))
width_at words aliases places.ElementAlias name = Some (term_width (aliases name))
width_at words aliases _ name = None

abbrev pub next_width : Spelling → Aliases → List Event → Option ℕ
next_width words aliases [] = None
next_width words aliases (e ∷ events) = width_at words aliases e.place e.name

abbrev pub is_colon : Place → Bool
is_colon places.NumberColon = true
is_colon _ = false

-- the width for a number, where it is decided: that of the type behind its colon, or else 64
abbrev pub number_width : Spelling → Aliases → List Event → Option ℕ
number_width words aliases [] = Some 64
number_width words aliases (e ∷ events) = if is_colon e.place then next_width words aliases events else Some 64

abbrev pub unfits_some : Option ℕ → Bool → ℕ → Bool
unfits_some None minus number = false
unfits_some (Some width) minus number = unfits minus width number

-- a dimension is below 2^63
abbrev pub is_long_size : Option ℕ → Bool
is_long_size None = false
is_long_size (Some size) = nat_le 9223372036854775808 size

-- a count of results is 1 to 4096
abbrev pub is_count : ℕ → Bool
is_count number = nat_le 1 number && nat_le number 4096

-- the width of the numbers of the array, and whether the event before is a minus
pub record Listed : Type 0 where
  pub width : ℕ
  pub minus : Bool

-- an integer, where the width of its type is decided so; a number of an array; a dimension; the length of an array, below 2^32; a count of results, from 1 to 4096
abbrev pub out_at : Spelling → Listed → Place → ℕ → Option ℕ → Bool
out_at words s places.IntegerNumber name width = unfits_some width s.minus (words.number name)
out_at words s places.ListedNumber name width = unfits s.minus s.width (words.number name)
out_at words s places.DimensionSize name width = is_long_size (words.size name)
out_at words s places.ArrayNumber name width = nat_le 4294967296 (words.number name)
out_at words s places.ResultNumber name width = not (is_count (words.number name))
out_at words s _ name width = false

abbrev pub is_out : Spelling → Aliases → Listed → Event → List Event → Bool
is_out words aliases s e behind = out_at words s e.place e.name (number_width words aliases behind)

abbrev pub is_minus : Place → Bool
is_minus places.IntegerMinus = true
is_minus places.ListedMinus = true
is_minus _ = false

abbrev pub listed_at : Spelling → Place → ℕ → ℕ → ℕ
listed_at words places.NumbersWidth name width = written_width (words.width name)
listed_at words _ name width = width

abbrev pub pass_listed : Spelling → Listed → Event → List Event → Listed
pass_listed words s e behind = record { width = listed_at words e.place e.name s.width; minus = is_minus e.place }

-- the first number out of its range
abbrev pub first_out : Spelling → Aliases → List Event → Option ℕ
first_out words aliases events = first_in (pass_listed words) (is_out words aliases) (record { width = 64; minus = false }) events
