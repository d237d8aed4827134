use Rattle.mlir_lex.proofs.Spans.{lexes-gaps}
use Rattle.mlir_lex.proofs.law_only_gaps_between.Goals as goal

pub returns : goal.returns
returns c = lexes-gaps
