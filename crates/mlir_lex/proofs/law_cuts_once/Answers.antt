use Rattle.mlir_lex.proofs.Once.{lexes_once}
use Rattle.mlir_lex.proofs.law_cuts_once.Goals as goal

pub returns : goal.returns
returns c = lexes_once
