-- Names as numbers.
use Rattle.std.specs.Prelude.{◌≡◌, ℕ, ◌<◌, Bool, true, false, List, length, get_or}
use Rattle.text_events.specs.declared.event.Event.{Event}
use Rattle.text_scopes.specs.declared.steps.Step.{Step}
use Rattle.text_scopes.specs.declared.steps.Step.TheVariants as steps

-- whether the event defines or uses its name
abbrev pub is_named : Step → Bool
is_named steps.Defines = true
is_named steps.Uses = true
is_named _ = false

-- the names of all events that define or use one are below the number
abbrev pub NamesBelow : ℕ → List Step → List Event → Type 0
NamesBelow count ss es = (k : ℕ) (s : Step) (e : Event) → k < length es → is_named (get_or ss k s) ≡ true → (get_or es k e).name < count
