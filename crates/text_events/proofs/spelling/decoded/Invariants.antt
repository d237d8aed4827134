use Rattle.std.proofs.Common.{◌≡◌, ◌++◌, drop, map}
use Rattle.text_events.specs.Decoded.{decoded_of}
use Rattle.text_events.proofs.spelling.decoded.Given as goal

-- those so far, before those of what is left
abbrev pub invariant-each : goal.invariant-each
invariant-each l = map (λ bytes. bytes.items) l.found.items ++ decoded_of l.text (drop l.word-index l.words) ≡ decoded_of l.text l.words
