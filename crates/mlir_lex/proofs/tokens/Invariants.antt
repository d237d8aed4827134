use Rattle.std.proofs.Common.{length, ◌++◌}
use Rattle.mlir_lex.specs.Text.{Lexes}
use Rattle.mlir_lex.proofs.tokens.Given as goal

-- what was found and what the lexer still gives are the whole
abbrev pub invariant-loop-token : goal.invariant-loop-token
invariant-loop-token l = Lexes l.text (l.found.items ++ l.lexer.tokens) l.lexer.fault

abbrev pub decreases-loop-token : goal.decreases-loop-token
decreases-loop-token l = length l.lexer.tokens
