use Rattle.settled_reading.proofs.Modules.{read_is_settled}
use Rattle.settled_reading.proofs.law_read_is_settled.Goals as goal

pub returns : goal.returns
returns c = read_is_settled
