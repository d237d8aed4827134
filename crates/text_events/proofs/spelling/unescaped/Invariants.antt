use Rattle.std.proofs.Common.{◌≡◌, ◌++◌, drop}
use Rattle.text_events.specs.Decoded.{left}
use Rattle.text_events.specs.Spelling.{unescaped}
use Rattle.text_events.proofs.spelling.unescaped.Given as goal

-- the bytes so far, before what is left comes to
abbrev pub invariant-each : goal.invariant-each
invariant-each l = l.out.items ++ left l.waits (drop l.b-index l.bytes) ≡ unescaped l.bytes
