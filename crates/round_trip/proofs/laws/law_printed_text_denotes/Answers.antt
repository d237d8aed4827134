use Rattle.round_trip.proofs.TextLemmas.{text_denotes}
use Rattle.round_trip.proofs.laws.law_printed_text_denotes.Goals as goal

pub returns : goal.returns
returns c = text_denotes
