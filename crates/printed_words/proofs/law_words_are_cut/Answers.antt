use Rattle.printed_words.proofs.CutLemmas.{words_are_cut}
use Rattle.printed_words.proofs.law_words_are_cut.Goals as goal

pub returns : goal.returns
returns c = words_are_cut
