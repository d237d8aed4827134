use Rattle.printed_kinds.proofs.PartKinds.{parts_are_few}
use Rattle.printed_kinds.proofs.law_parts_are_few.Goals as goal

pub returns : goal.returns
returns c = parts_are_few
