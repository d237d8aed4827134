use Rattle.printed_events.proofs.EventLemmas.{words_are_told}
use Rattle.printed_events.proofs.law_words_are_told.Goals as goal

pub returns : goal.returns
returns c = words_are_told
