use Rattle.mlir_lex.proofs.Spans.{lexes-fault}
use Rattle.mlir_lex.proofs.law_fault_is_first.Goals as goal

pub returns : goal.returns
returns c = lexes-fault
