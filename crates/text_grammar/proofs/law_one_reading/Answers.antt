use Rattle.line_grammar.proofs.Theorems.{one_reading}
use Rattle.text_grammar.proofs.Generic.{generic_ll}
use Rattle.text_grammar.proofs.law_one_reading.Goals as goal

pub returns : goal.returns
returns c = λ kinds ps qs r s. one_reading generic_ll ps qs kinds r s
