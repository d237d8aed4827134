use Rattle.std.proofs.Common.{◌≡◌, ◌≤◌, ◌++◌, drop, length}
use Rattle.text_scopes.specs.Bodies.{class_in, outside}
use Rattle.text_scopes.specs.Tables.{steps_of}
use Rattle.text_scopes.proofs.tables.steps_of.Given as goal

-- the steps so far, with those of what is left, are the whole
abbrev pub invariant-loop-event : goal.invariant-loop-event
invariant-loop-event l = record {
  steps : l.steps.items ++ steps_of l.names (class_in l.classes) l.body (drop l.event-index l.events) ≡ steps_of l.names (class_in l.classes) outside l.events;
  count : length l.steps.items ≡ l.event-index;
  bound : l.body.within ≤ l.event-index;
}
