use Rattle.std.proofs.Common.{◌≡◌, ◌≤◌, ◌++◌, length, take, drop}
use Rattle.text_refusals.specs.Placed.{placed}
use Rattle.text_refusals.proofs.places.restore.Given as goal

-- the events from here on have their places, and those before are as they were
abbrev pub invariant-each : goal.invariant-each
invariant-each l = record {
  bound : l.index ≤ length l.fn.events;
  events : l.events ≡ take l.index l.fn.events ++ placed (drop l.index l.fn.events) (drop l.index l.places);
}

abbrev pub decreases-each : goal.decreases-each
decreases-each l = l.index
