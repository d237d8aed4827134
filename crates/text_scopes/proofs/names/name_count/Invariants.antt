use Rattle.std.proofs.Common.{◌≡◌, ◌<◌, ℕ, true, get_or}
use Rattle.text_events.specs.declared.event.Event.{Event}
use Rattle.text_scopes.specs.declared.steps.Step.{Step}
use Rattle.text_scopes.specs.Names.{is_named}
use Rattle.text_scopes.proofs.names.name_count.Given as goal

-- the number is above each name so far
abbrev pub invariant-each : goal.invariant-each
invariant-each l = (k : ℕ) (s : Step) (e : Event) → k < l.index → is_named (get_or l.steps k s) ≡ true → (get_or l.events k e).name < l.count
