use Rattle.event_trees.proofs.WrittenLaws.{read_back}
use Rattle.event_trees.proofs.law_read_back.Goals as goal

pub returns : goal.returns
returns c = read_back
