-- None of the kinds before has that text.
use Rattle.std.proofs.Common.{◌≡◌, drop}
use Rattle.std.specs.Prelude.{find}
use Rattle.std.specs.Str.{bytes_eq}
use Rattle.pipeline_text.specs.Words.{kind_text, words}
use Rattle.pipeline_text.proofs.lexer.word_kind.Given as goal

abbrev pub invariant-each : goal.invariant-each
invariant-each l = find (λ k. bytes_eq (kind_text k) l.word) (drop l.kind-index words) ≡ find (λ k. bytes_eq (kind_text k) l.word) words
