use Rattle.mlir_lex.proofs.Spans.{lexes-in_order}
use Rattle.mlir_lex.proofs.law_spans_in_order.Goals as goal

pub returns : goal.returns
returns c = lexes-in_order
