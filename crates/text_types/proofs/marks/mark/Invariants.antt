use Rattle.std.proofs.Common.{◌≡◌, ◌≤◌, ◌++◌, length, take, drop, reverse}
use Rattle.text_types.specs.Marks.{marked, closed, arrow_next}
use Rattle.text_types.proofs.marks.mark.Given as goal

-- the events from here on are marked, and those before are as they were
abbrev pub invariant-each : goal.invariant-each
invariant-each l = record {
  bound : l.index ≤ length l.fn.events;
  events : l.events ≡ take l.index l.fn.events ++ marked (drop l.index l.fn.events);
  closed : reverse l.closed.items ≡ closed (drop l.index l.fn.events);
  arrow : l.arrow ≡ arrow_next (drop l.index l.fn.events);
}

abbrev pub decreases-each : goal.decreases-each
decreases-each l = l.index
