use Rattle.std.proofs.Common.{◌≡◌, map, drop}
use Rattle.tool_words.specs.Lists.{all_of}
use Rattle.tool_words.specs.Words.{word_or_none}
use Rattle.tool_words.proofs.Made.{with_front}
use Rattle.tool_words.proofs.texts.texts.Given as goal

abbrev pub invariant-each : goal.invariant-each
invariant-each l =
    with_front (map (λ s. s.now) l.all.items) (all_of word_or_none (map (λ w. w.items) (drop l.word-index l.words)))
    ≡ all_of word_or_none (map (λ w. w.items) l.initial.words)
