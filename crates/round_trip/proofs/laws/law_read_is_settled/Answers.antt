use Rattle.round_trip.proofs.TextLemmas.{reads_settled}
use Rattle.round_trip.proofs.laws.law_read_is_settled.Goals as goal

pub returns : goal.returns
returns c = reads_settled
