use Rattle.std.proofs.Common.{◌≡◌, drop, map, reverse}
use Rattle.line_grammar.specs.Machine.{run, with_front}
use Rattle.text_grammar.specs.Table.{generic}
use Rattle.text_grammar.specs.Text.{start}
use Rattle.text_grammar.specs.Steps.{kind_of}
use Rattle.text_grammar.proofs.reading.places_of.Given as goal

-- the places so far, before those of what is left, are those of the whole
abbrev pub invariant-loop-word : goal.invariant-loop-word
invariant-loop-word l = with_front l.places.items (run generic (reverse l.stack.items) (map kind_of (drop l.word-index l.words))) ≡ run generic start (map kind_of l.words)
