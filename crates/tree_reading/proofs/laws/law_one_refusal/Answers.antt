use Rattle.tree_reading.proofs.ReadingLaws.{refused_once}
use Rattle.tree_reading.proofs.laws.law_one_refusal.Goals as goal

pub returns : goal.returns
returns c = refused_once
