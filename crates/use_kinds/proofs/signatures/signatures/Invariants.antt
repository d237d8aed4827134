use Rattle.std.proofs.Common.{◌≡◌, ◌≤◌, ℕ, get_or, length, drop, reverse}
use Rattle.use_kinds.specs.Written.{signature_behind}
use Rattle.use_kinds.specs.Flat.{signatures_of}
use Rattle.use_kinds.proofs.signatures.signatures.Given as goal

-- what is told of the events from here on, and of each region around them
abbrev pub invariant-each : goal.invariant-each
invariant-each l = record {
  bound : l.index ≤ length l.events;
  levels : (over : ℕ) → get_or (reverse l.inner.items) over 0 ≡ length (signature_behind (drop l.index l.events) over);
  found : reverse l.found.items ≡ signatures_of (drop l.index l.events);
}

abbrev pub decreases-each : goal.decreases-each
decreases-each l = l.index
