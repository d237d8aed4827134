use Rattle.round_trip.proofs.TextLemmas.{scoped_denotes}
use Rattle.round_trip.proofs.laws.law_scoped_text_denotes.Goals as goal

pub returns : goal.returns
returns c = scoped_denotes
