use Rattle.mlir_lex.proofs.Once.{lexes_some}
use Rattle.mlir_lex.proofs.Lexer.new.Goals as goal

pub returns : goal.returns
returns c = lexes_some c.args.text.now
