use Rattle.tree_reading.proofs.ReadingLaws.{never_both}
use Rattle.tree_reading.proofs.laws.law_never_both.Goals as goal

pub returns : goal.returns
returns c = never_both
