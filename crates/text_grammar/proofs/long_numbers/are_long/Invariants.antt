use Rattle.std.proofs.Common.{◌≡◌, ◌<◌, ◌^◌, drop}
use Rattle.text_grammar.specs.TokenKinds.{value_from}
use Rattle.text_grammar.proofs.long_numbers.are_long.Given as goal

-- what is left decides
abbrev pub invariant-loop-digit : goal.invariant-loop-digit
invariant-loop-digit l = record { decides : value_from l.base l.value (drop l.digit-index l.digits) ≡ value_from l.base 0 l.digits; bound : l.value < 2 ^ 128 }
