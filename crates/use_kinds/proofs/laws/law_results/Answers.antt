use Rattle.use_kinds.proofs.OrderLaws.{results_are}
use Rattle.use_kinds.proofs.laws.law_results.Goals as goal

pub returns : goal.returns
returns c = λ words aliases s names behind. results_are words aliases behind s names
