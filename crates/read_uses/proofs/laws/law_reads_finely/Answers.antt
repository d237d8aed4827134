use Rattle.read_uses.proofs.Finely.{reads_finely}
use Rattle.read_uses.proofs.laws.law_reads_finely.Goals as goal

pub returns : goal.returns
returns c = reads_finely
