use Rattle.std.proofs.Common.{◌≡◌, ◌<◌, ◌^◌, drop}
use Rattle.text_grammar.specs.TokenKinds.{value_from}
use Rattle.text_events.proofs.source.capped_value.Given as goal

-- what is left decides
abbrev pub invariant-each : goal.invariant-each
invariant-each l = record { decides : value_from l.base l.value (drop l.digit-index l.digits) ≡ value_from l.base 0 l.digits; bound : l.value < 2 ^ 128 }
