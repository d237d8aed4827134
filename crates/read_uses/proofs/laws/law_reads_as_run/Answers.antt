use Rattle.read_uses.proofs.Texts.{reads_as_run}
use Rattle.read_uses.proofs.laws.law_reads_as_run.Goals as goal

pub returns : goal.returns
returns c = reads_as_run
