use Rattle.std.proofs.Common.{◌≡◌, ◌++◌, drop}
use Rattle.text_events.specs.Source.{events_from, events_of}
use Rattle.text_events.proofs.event_list.events.Given as goal

-- those so far, before those of what is left
abbrev pub invariant-each : goal.invariant-each
invariant-each l = l.found.items ++ events_from l.index (drop l.index l.places) (drop l.index l.names) ≡ events_of l.places l.names
