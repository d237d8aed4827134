use Rattle.round_trip.proofs.TextLemmas.{reads_in_bytes}
use Rattle.round_trip.proofs.laws.law_read_is_in_bytes.Goals as goal

pub returns : goal.returns
returns c = reads_in_bytes
