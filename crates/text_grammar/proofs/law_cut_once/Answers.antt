use Rattle.text_grammar.proofs.OnceLemmas.{cut_once}
use Rattle.text_grammar.proofs.law_cut_once.Goals as goal

pub returns : goal.returns
returns c = cut_once
