use Rattle.std.proofs.Common.{◌≡◌, map, drop}
use Rattle.tool_words.specs.Lists.{all_of}
use Rattle.tool_words.specs.Numbers.{integer_of}
use Rattle.tool_words.proofs.Made.{with_front}
use Rattle.tool_words.proofs.numbers.all_integers.Given as goal

abbrev pub invariant-each : goal.invariant-each
invariant-each l = with_front l.integers (all_of integer_of (map (λ s. s.now) (drop l.part-index l.parts))) ≡ all_of integer_of (map (λ s. s.now) l.initial.parts)
