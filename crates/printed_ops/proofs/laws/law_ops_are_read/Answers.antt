use Rattle.printed_ops.proofs.ReadLemmas.{ops_read}
use Rattle.printed_ops.proofs.laws.law_ops_are_read.Goals as goal

pub returns : goal.returns
returns c = ops_read
