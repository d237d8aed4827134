use Rattle.std.proofs.Common.{◌≡◌, drop}
use Rattle.text_events.specs.Looking.{last_memref}
use Rattle.text_events.proofs.ending.last_memref.Given as goal

-- what is left decides, behind the last one so far
abbrev pub invariant-each : goal.invariant-each
invariant-each l = last_memref l.index l.found (drop l.index l.before) ≡ last_memref 0 l.at l.before
