-- The tokens so far, before those of what is left behind the open word, are all of them.
use Rattle.pipeline_text.proofs.Cuts.{IsCutTo}
use Rattle.pipeline_text.proofs.lexer.lex.Given as goal

abbrev pub invariant-each : goal.invariant-each
invariant-each l = IsCutTo l.tokens l.start l.at l.text
