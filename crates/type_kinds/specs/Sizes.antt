-- The sizes of aliases, as parts or as depths, in order of the text.
use Rattle.std.specs.Prelude.{ℕ, ◌==◌, Bool, false, Option, Some, None, nat_eq, if◌then◌else◌}
use Rattle.std.specs.HashMap.{get}
use Rattle.text_events.specs.declared.event.Event.{Event}
use Rattle.text_types.specs.Aliases.{is_start, defines}
use Rattle.text_types.specs.Stack.{or_zero}
use Rattle.type_kinds.specs.declared.tally.Tally.{Tally}
use Rattle.type_kinds.specs.Begins.{is_minus}

pub record Sizes : Type 0 where
  -- the size of each alias that is defined, 0 for another name
  pub sizes : ℕ → ℕ
  -- the alias that is being defined
  pub alias : Option ℕ
  -- the size of what it stands for, as far as it was read
  pub amount : ℕ
  -- whether the event before is a minus
  pub minus : Bool

-- no alias
abbrev pub no_sizes : Sizes
no_sizes = record { sizes = λ _. 0; alias = None; amount = 0; minus = false }

-- the sizes with that of the alias
abbrev pub noted : Option ℕ → ℕ → (ℕ → ℕ) → ℕ → ℕ
noted None amount sizes other = sizes other
noted (Some name) amount sizes other = if other == name then amount else sizes other

-- the alias whose definition begins at the event
abbrev pub alias_at : Event → Option ℕ
alias_at e = if defines e.place then Some e.name else None

-- behind an event: where an operation or a definition begins, the alias before it ends; else the alias has this amount so far
abbrev pub moved : Sizes → Event → ℕ → Sizes
moved s e amount =
    if is_start e.place then record { sizes = noted s.alias s.amount s.sizes; alias = alias_at e; amount = 0; minus = false }
    else record { sizes = s.sizes; alias = s.alias; amount = amount; minus = is_minus e.place }

-- the sizes that a table in code holds
abbrev pub size_in : Tally → ℕ → ℕ
size_in tally name = or_zero (get nat_eq tally.sizes name)

abbrev pub sizes_of : Tally → Sizes
sizes_of tally = record { sizes = size_in tally; alias = tally.alias; amount = tally.amount; minus = tally.minus }
