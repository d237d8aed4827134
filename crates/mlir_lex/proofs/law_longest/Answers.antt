use Rattle.mlir_lex.proofs.Spans.{lexes-longest}
use Rattle.mlir_lex.proofs.law_longest.Goals as goal

pub returns : goal.returns
returns c = lexes-longest
