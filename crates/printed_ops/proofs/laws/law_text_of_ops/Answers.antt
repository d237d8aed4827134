use Rattle.printed_ops.proofs.TextLemmas.{op_lines}
use Rattle.printed_ops.proofs.laws.law_text_of_ops.Goals as goal

pub returns : goal.returns
returns c = op_lines
