use Rattle.pipeline_text.proofs.Printed.{printed_again}
use Rattle.pipeline_text.proofs.laws.law_printed_reads_again.Goals as goal

pub returns : goal.returns
returns c = printed_again
