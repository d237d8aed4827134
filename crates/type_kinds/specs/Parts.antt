-- The parts of a text.
use Rattle.std.specs.Prelude.{ℕ, ◌+◌, Bool, List, Option, nat_lt}
use Rattle.text_events.specs.declared.event.Event.{Event}
use Rattle.text_types.specs.Items.{place_next}
use Rattle.type_kinds.specs.declared.begins.Begin.{Begin}
use Rattle.type_kinds.specs.declared.begins.Begin.TheVariants as begin
use Rattle.type_kinds.specs.Begins.{begin_at}
use Rattle.type_kinds.specs.Sizes.{Sizes, no_sizes, moved}
use Rattle.type_kinds.specs.First.{first_in}

-- how many parts a text may have
abbrev pub most_parts : ℕ
most_parts = 16777216

-- each type and each attribute that is written is one, and an alias is all that it stands for
abbrev pub parts_of : Begin → ℕ → ℕ
parts_of begin.Nothing size = 0
parts_of begin.Type size = 1
parts_of begin.Attr size = 1
parts_of begin.TypeAlias size = size
parts_of begin.AttrAlias size = size

-- the parts of aliases, and those of the text so far
pub record Counted : Type 0 where
  pub sizes : Sizes
  pub total : ℕ

abbrev pub parts_at : Counted → Event → List Event → ℕ
parts_at s e behind = parts_of (begin_at e.place s.sizes.minus (place_next behind)) (s.sizes.sizes e.name)

abbrev pub count : Counted → Event → List Event → Counted
count s e behind = record { sizes = moved s.sizes e (s.sizes.amount + parts_at s e behind); total = s.total + parts_at s e behind }

-- the count passes the limit
abbrev pub too_many : Counted → Event → List Event → Bool
too_many s e behind = nat_lt most_parts (s.total + parts_at s e behind)

abbrev pub none_counted : Counted
none_counted = record { sizes = no_sizes; total = 0 }

-- the first event with which the count passes the limit
abbrev pub first_part : List Event → Option ℕ
first_part events = first_in count too_many none_counted events
