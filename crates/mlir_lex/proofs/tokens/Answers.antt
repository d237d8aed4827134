use Rattle.std.proofs.Common.{◌++◌, sym, ◌∙◌}
use Rattle.mlir_lex.proofs.Spans.{found-within, given-within}
use Rattle.mlir_lex.proofs.tokens.Goals as goal

pub returns-in-Ok-None-clause-spans : goal.returns-in-Ok-None-clause-spans
returns-in-Ok-None-clause-spans c = found-within c.args.text.now c.loop-token.found.items c.loop-token.lexer.tokens c.loop-token.lexer.fault c.loop-token.invariant

pub returns-in-Err-clause-spans : goal.returns-in-Err-clause-spans
returns-in-Err-clause-spans c = found-within c.args.text.now c.loop-token.found.items c.loop-token.lexer.tokens c.loop-token.lexer.fault c.loop-token.invariant

pub returns-in-Err-clause-place : goal.returns-in-Err-clause-place
returns-in-Err-clause-place c = given-within c.args.text.now (c.loop-token.found.items ++ c.loop-token.lexer.tokens) c.loop-token.lexer.tokens c.loop-token.lexer.fault c.in-Err.fault c.loop-token.invariant (sym c.in-Err.is ∙ c.next.ensures.gives)
