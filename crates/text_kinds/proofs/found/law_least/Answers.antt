use Rattle.text_kinds.proofs.LeastLemmas.{finds_least}
use Rattle.text_kinds.proofs.found.law_least.Goals as goal

pub returns : goal.returns
returns c = finds_least
